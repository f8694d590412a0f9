use Rattle.std.proofs.Common.{IfOk, subst}
use Rattle.peg_code.specs.Code.{entries_of, program_code}
use Rattle.peg_core.specs.CoreForm.{core_bodies}
use Rattle.peg_parser.specs.Parser.{parser_rules}
use Rattle.peg_json.specs.Lines.{IsReply, line_bytes}
use Rattle.peg_json.specs.Reply.{Coded}
use Rattle.peg_json.specs.Statuses.{status_code}
use Rattle.peg_json.proofs.PrintLemmas.{reply-kind}
use Rattle.peg_replies.specs.Loaded.{IsLoadedFrom}
use Rattle.peg_replies.specs.Replies.{RepliesTo, coded}
use Rattle.peg_replies.specs.Task.{CodeTask}
use Rattle.peg_replies.proofs.loading.code_file.Goals as goal

pub returns-in-Accepted : goal.returns-in-Accepted
returns-in-Accepted c text =
    let file = c.args.file.now in
    let bodies = core_bodies (parser_rules c.in-Accepted.parser) in
    let judged = subst (IsLoadedFrom file) c.in-Accepted.is c.in_ok-parser.ensures in
    let program = c.program.result.now in
    reply-kind c.code_line.result file (RepliesTo file text CodeTask) (Coded (program_code bodies) (entries_of bodies))
    (subst (λ code. IfOk c.code_line.result (λ line. IsReply file (Coded code (entries_of bodies)) (line_bytes line) (status_code line.status)))
    c.program.ensures.code
    (subst (λ entries. IfOk c.code_line.result (λ line. IsReply file (Coded program.code entries) (line_bytes line) (status_code line.status)))
    c.program.ensures.entries (c.code_line.ensures file))) (coded judged)
