use Rattle.std.proofs.Common.{refl}
use Rattle.peg_record_files.specs.declared.fault.StreamFault.TheVariants.{Memory, Write}
use Rattle.peg_record_files.proofs.ReplyLemmas.{part-none}
use Rattle.peg_record_files.proofs.RunLemmas.{first-in-part, first-part-written, first-written}
use Rattle.peg_record_files.proofs.run.RecordRun.write_block.Goals as goal

pub returns-in_err-push_records-clause-leads : goal.returns-in_err-push_records-clause-leads
returns-in_err-push_records-clause-leads g c left ahead before =
    let IsReply = g.P.RecordPrinter.replies c.args.printer.now in
    let written = g.W.Sink.written c.args.output.now in
    first-in-part IsReply c.args.filter c.args.self.now.reader.end left ahead c.args.self.now c.push_records.new.self written written
    Memory c.from_residual.result c.from_residual.ensures.1
    (part-none IsReply c.args.filter c.args.self.now.reader.end c.args.self.now.lines.place ahead written)

pub returns-in_err-write-clause-leads : goal.returns-in_err-write-clause-leads
returns-in_err-write-clause-leads g c left ahead before =
    let IsReply = g.P.RecordPrinter.replies c.args.printer.now in
    let old = g.W.Sink.written c.args.output.now in
    let new = g.W.Sink.written c.write.new.output in
    first-in-part IsReply c.args.filter c.args.self.now.reader.end left ahead c.args.self.now
    record { reader = c.push_records.new.self.reader; lines = c.write.new.self } old new
    Write c.from_residual-in_err-write.result c.from_residual-in_err-write.ensures.1
    (first-part-written IsReply c.args.filter c.args.self.now.reader.end left ahead c.args.self.now c.push_records.new.self
    c.args.self.now.lines.lines.items c.push_records.new.self.lines.lines.items old new c.requires.none
    (c.in_ok-push_records.ensures.first left ahead before) c.in_err-write.ensures.err)

pub returns-clause-leads : goal.returns-clause-leads
returns-clause-leads g c left ahead before =
    first-written (g.P.RecordPrinter.replies c.args.printer.now) c.args.filter c.args.self.now.reader.end left ahead c.args.self.now
    c.push_records.new.self record { reader = c.push_records.new.self.reader; lines = c.write.new.self }
    c.args.self.now.lines.lines.items c.push_records.new.self.lines.lines.items (g.W.Sink.written c.args.output.now)
    (g.W.Sink.written c.write.new.output) c.requires.none (c.in_ok-push_records.ensures.first left ahead before)
    c.in_ok-write.ensures.ok c.in_ok-write.ensures.same refl
