use Rattle.std.proofs.Common.{◌≡◌, arith, length}
use Rattle.std.proofs.lemmas.Grind.{common_steps}
use Rattle.peg_record_files.proofs.ReplyLemmas.{adds-one, place-next}
use Rattle.peg_record_files.proofs.lines.RecordLines.push.Goals as goal

pub returns-clause-line : goal.returns-clause-line
returns-clause-line g c end text given feeds =
    let replied = c.in_ok-outcome.ensures.line text given in
    let size : c.len-len.result ≡ length c.args.self.now.lines.items = grind (arith, common_steps) in
    adds-one (g.P.RecordPrinter.replies c.args.printer.now) c.args.filter end text replied.0 c.push_line.new.lines.items
    c.len-len.result c.shows.result c.in_ok-outcome.outcome c.args.self.now _ replied.1 replied.2 size
    c.shows.ensures c.keep_line.ensures c.worse-self.ensures
    (place-next end c.args.self.now.place c.in_ok-self.field-0 text c.args.line_feeds c.in_ok-outcome.outcome
    c.in_ok-self.ensures.number c.in_ok-self.ensures.line_feeds c.in_ok-self.ensures.failed feeds)
