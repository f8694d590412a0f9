use Rattle.peg_json.specs.Lines.{line_bytes}
use Rattle.peg_json.specs.RecordLines.{record_line}
use Rattle.peg_json.specs.Statuses.{status_code}
use Rattle.peg_parser.specs.Parser.{parser_rules, start_named}
use Rattle.peg_replies.specs.Commands.{nodes_asked}
use Rattle.peg_replies.proofs.RecordLemmas.{record-reply, same-replies}
use Rattle.peg_replies.proofs.record_session.RecordSessionRecordPrinter.push_line.Goals as goal

pub returns-clause-line : goal.returns-clause-line
returns-clause-line c text is_given =
    let parser = c.args.self.now.records.now in
    let printing = parser.printing in
    let options = parser.options in
    let line = c.in_ok-line.line in (
      record_line c.args.place.number (line_bytes line),
      λ file of. record-reply file c.args.given.now text (line_bytes line) c.args.place (status_code line.status)
          (parser_rules parser.parser) (start_named options) options.memo options.steps printing.all printing.form
          (nodes_asked printing.nodes) printing.with_bytes c.outcome_of-outcome.result of.parser.accepts of.parser.known of.parser.start
          is_given c.outcome_of-outcome.ensures (c.in_ok-line.ensures.line file of),
      c.in_ok-push_record_line.ensures,
    )

-- the session parses as before, so a later reply is a reply of now

pub returns-in_err-line-clause-replies : goal.returns-in_err-line-clause-replies
returns-in_err-line-clause-replies c =
    same-replies c.args.self.now c.line_of.new.self c.line_of.ensures.records c.line_of.ensures.parses

pub returns-in_err-push_record_line-clause-replies : goal.returns-in_err-push_record_line-clause-replies
returns-in_err-push_record_line-clause-replies c =
    same-replies c.args.self.now c.line_of.new.self c.line_of.ensures.records c.line_of.ensures.parses

pub returns-clause-replies : goal.returns-clause-replies
returns-clause-replies c =
    same-replies c.args.self.now c.line_of.new.self c.line_of.ensures.records c.line_of.ensures.parses
