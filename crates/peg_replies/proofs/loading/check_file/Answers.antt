use Rattle.std.proofs.Common.{ℕ, IfOk, length, subst, ap, ◌∙◌}
use Rattle.peg_parser.specs.Parser.{parser_rules}
use Rattle.peg_json.specs.Lines.{IsReply, line_bytes}
use Rattle.peg_json.specs.Reply.{Accepted}
use Rattle.peg_json.specs.Statuses.{status_code}
use Rattle.peg_json.proofs.PrintLemmas.{reply-kind}
use Rattle.peg_replies.specs.Loaded.{IsLoadedFrom}
use Rattle.peg_replies.specs.Replies.{RepliesTo, accepted}
use Rattle.peg_replies.specs.Task.{CheckTask}
use Rattle.peg_replies.proofs.loading.check_file.Goals as goal

pub returns-in-Accepted : goal.returns-in-Accepted
returns-in-Accepted c text =
    let file = c.args.file.now in
    let rules = parser_rules c.in-Accepted.parser in
    let judged = subst (IsLoadedFrom file) c.in-Accepted.is c.in_ok-parser.ensures in
    reply-kind c.accepted_line.result file (RepliesTo file text CheckTask) (Accepted (length rules))
    (subst (λ (n : ℕ). IfOk c.accepted_line.result (λ line. IsReply file (Accepted n) (line_bytes line) (status_code line.status)))
    (c.rules.ensures.count ∙ ap length c.grammar.ensures) (c.accepted_line.ensures file)) (accepted judged)
