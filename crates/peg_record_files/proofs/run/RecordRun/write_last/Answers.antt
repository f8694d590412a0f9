use Rattle.peg_record_files.specs.declared.fault.StreamFault.TheVariants.{Memory, Write}
use Rattle.peg_record_files.proofs.ReplyLemmas.{adds-written, part-none, part-written}
use Rattle.peg_record_files.proofs.RunLemmas.{leads-in-part}
use Rattle.peg_record_files.proofs.run.RecordRun.write_last.Goals as goal

pub returns-in_err-push_last-clause-leads : goal.returns-in_err-push_last-clause-leads
returns-in_err-push_last-clause-leads g c ahead before =
    let IsReply = g.P.RecordPrinter.replies c.args.printer.now in
    let written = g.W.Sink.written c.args.output.now in
    leads-in-part IsReply c.args.filter c.args.self.now.reader.end ahead c.args.self.now c.push_last.new.self written written
    Memory c.from_residual.result c.from_residual.ensures.1
    (part-none IsReply c.args.filter c.args.self.now.reader.end c.args.self.now.lines.place ahead written)

pub returns-in_err-write-clause-leads : goal.returns-in_err-write-clause-leads
returns-in_err-write-clause-leads g c ahead before =
    let IsReply = g.P.RecordPrinter.replies c.args.printer.now in
    let old = g.W.Sink.written c.args.output.now in
    let new = g.W.Sink.written c.write.new.output in
    leads-in-part IsReply c.args.filter c.args.self.now.reader.end ahead c.args.self.now
    record { reader = c.push_last.new.self.reader; lines = c.write.new.self } old new
    Write c.from_residual-in_err-write.result c.from_residual-in_err-write.ensures.1
    (part-written IsReply c.args.filter c.args.self.now.reader.end ahead c.args.self.now.lines c.push_last.new.self.lines
    c.args.self.now.lines.lines.items c.push_last.new.self.lines.lines.items old new c.requires.none
    (c.in_ok-push_last.ensures.all ahead before) c.in_err-write.ensures.err)

pub returns-clause-leads : goal.returns-clause-leads
returns-clause-leads g c ahead before =
    adds-written (g.P.RecordPrinter.replies c.args.printer.now) c.args.filter c.args.self.now.reader.end ahead c.args.self.now.lines
    c.push_last.new.self.lines c.write.new.self c.args.self.now.lines.lines.items
    c.push_last.new.self.lines.lines.items (g.W.Sink.written c.args.output.now) (g.W.Sink.written c.write.new.output)
    c.requires.none (c.in_ok-push_last.ensures.all ahead before) c.in_ok-write.ensures.ok c.in_ok-write.ensures.same
