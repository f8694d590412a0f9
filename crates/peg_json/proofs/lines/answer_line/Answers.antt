use Rattle.std.proofs.Common.{IfOk, subst, sym}
use Rattle.peg_parser.specs.Parser.{parser_rules}
use Rattle.peg_json.specs.Lines.{IsLineOf, line_bytes}
use Rattle.peg_json.specs.Parses.{PrintsOutcome}
use Rattle.peg_json.specs.Statuses.{status_code}
use Rattle.peg_json.proofs.lines.answer_line.Goals as goal

pub returns-in-Rows : goal.returns-in-Rows
returns-in-Rows c file =
    subst (λ form. IfOk c.rows_line.result (λ line. IsLineOf file
    (PrintsOutcome (parser_rules c.args.parser.now) c.args.answer.outcome c.args.text_len c.args.all form)
    (line_bytes line) (status_code line.status))) (sym c.in-Rows.is) (c.rows_line.ensures file)
