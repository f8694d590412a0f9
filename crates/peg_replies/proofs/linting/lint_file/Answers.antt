use Rattle.std.proofs.Common.{IfOk, option_map, subst}
use Rattle.peg_parser.specs.Parser.{parser_rules}
use Rattle.peg_json.specs.Lines.{IsLineOf, line_bytes}
use Rattle.peg_json.specs.Lints.{LintsTo}
use Rattle.peg_json.specs.Statuses.{status_code}
use Rattle.peg_json.proofs.PrintLemmas.{kind-weaker}
use Rattle.peg_replies.specs.Loaded.{IsLoadedFrom}
use Rattle.peg_replies.specs.Replies.{RepliesTo, linted}
use Rattle.peg_replies.specs.Task.{LintTask}
use Rattle.peg_replies.proofs.linting.lint_file.Goals as goal

pub returns-in-Accepted : goal.returns-in-Accepted
returns-in-Accepted c text =
    let file = c.args.file.now in
    let rules = parser_rules c.in-Accepted.parser in
    let start = option_map (λ name. name.now) c.args.start in
    let judged = subst (IsLoadedFrom file) c.in-Accepted.is c.in_ok-parser.ensures in
    kind-weaker c.start_reply.result file (LintsTo file rules start c.args.selection)
    (RepliesTo file text (LintTask start c.args.selection))
    (λ reply is. linted judged is)
    (subst (λ r. IfOk c.start_reply.result (λ line. IsLineOf file (LintsTo file r start c.args.selection)
    (line_bytes line) (status_code line.status))) c.grammar.ensures c.start_reply.ensures)
