use Rattle.std.proofs.Common.{ℕ, List, lit<, refl, ◌∷◌, []}
use Rattle.peg_io.specs.NamedFile.{bytes_of}
use Rattle.peg_messages.specs.FileNames.{shown_name}
use Rattle.peg_replies.specs.Commands.{task_of}
use Rattle.peg_tool.specs.Faults.{plain_result, standard_output}
use Rattle.peg_replies.specs.Replies.{IsPrinted}
use Rattle.peg_replies.specs.Task.{IsTextOf}
use Rattle.peg_tool.proofs.EndLemmas.{opened-outcome, reply-among}
use Rattle.peg_tool.proofs.ProgramLemmas.{alone-outcome}
use Rattle.peg_tool.proofs.program.on_file.Goals as goal

pub returns-clause-leads : goal.returns-clause-leads
returns-clause-leads g c =
    let task = task_of c.args.command.now in
    let held = bytes_of (g.O.Opener.file_at c.args.files.now c.args.g.now) in
    let old = g.W.Sink.written c.args.output.now in
    let new = g.W.Sink.written c.write_request_reply.new.output in
    let result = plain_result c.write_request_reply.result in
    alone-outcome task held _ old new result c.requires.alone
    (opened-outcome (λ (file bytes : List ℕ). IsTextOf task file _ bytes) (IsPrinted task) old new c.reply_line-reply.result
    held (g.O.File.Source.left c.in-Ok.file) result c.in-Ok.ensures.bytes c.write_request_reply.ensures.ends
    c.reply_line-reply.ensures.answer)

pub returns-clause-named : goal.returns-clause-named
returns-clause-named g c =
    let ended = c.write_request_reply in
    let name = shown_name c.args.g.now in
    reply-among ended.result (name ∷ standard_output ∷ []) name _ _ _ _ ended.ensures.fault ended.ensures.read
    ended.ensures.written (0, lit< tt, refl) (1, lit< tt, refl)
