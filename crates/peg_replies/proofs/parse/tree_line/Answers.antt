use Rattle.std.proofs.Common.{false, IfOk, Bool, length, refl, subst, sym}
use Rattle.peg_parser.specs.Parser.{parser_rules}
use Rattle.peg_json.specs.Parses.{PrintsOutcome, PrintsOutcomeAsked}
use Rattle.peg_json.specs.Lines.{IsLineOf, line_bytes}
use Rattle.peg_json.specs.Statuses.{status_code}
use Rattle.peg_json.proofs.PrintLemmas.{kind-weaker}
use Rattle.peg_replies.proofs.parse.tree_line.Goals as goal

pub returns-then-with_bytes : goal.returns-then-with_bytes
returns-then-with_bytes c file =
    let printing = c.args.printing in
    subst (λ (asked : Bool). IfOk c.answer_line_with_text.result (λ line. IsLineOf file
    (PrintsOutcomeAsked (parser_rules c.args.parser.now) c.args.answer.outcome c.args.text.now printing.all printing.form asked)
    (line_bytes line) (status_code line.status))) (sym c.if-with_bytes.true) (c.answer_line_with_text.ensures file)

pub returns-else-with_bytes : goal.returns-else-with_bytes
returns-else-with_bytes c file =
    let printing = c.args.printing in
    let rules = parser_rules c.args.parser.now in
    let text = c.args.text.now in
    subst (λ (asked : Bool). IfOk c.answer_line.result (λ line. IsLineOf file
    (PrintsOutcomeAsked rules c.args.answer.outcome text printing.all printing.form asked)
    (line_bytes line) (status_code line.status))) (sym c.if-with_bytes.false)
    (kind-weaker c.answer_line.result file (PrintsOutcome rules c.args.answer.outcome (length text) printing.all printing.form)
    (PrintsOutcomeAsked rules c.args.answer.outcome text printing.all printing.form false)
    (λ reply prints. (reply, prints, refl)) (c.answer_line.ensures file))
