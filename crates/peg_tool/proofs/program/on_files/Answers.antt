use Rattle.std.proofs.Common.{ℕ, List, lit<, refl, ◌∷◌, []}
use Rattle.peg_io.specs.NamedFile.{bytes_of}
use Rattle.peg_messages.specs.FileNames.{shown_name}
use Rattle.peg_replies.specs.Commands.{task_of}
use Rattle.peg_tool.specs.Faults.{plain_result, standard_output}
use Rattle.peg_replies.specs.Replies.{IsPrinted}
use Rattle.peg_replies.specs.Task.{IsTextOf}
use Rattle.peg_tool.proofs.EndLemmas.{opened-outcome, reply-among}
use Rattle.peg_tool.proofs.ProgramLemmas.{both-outcome}
use Rattle.peg_tool.proofs.program.on_files.Goals as goal

pub returns-in-None-clause-leads : goal.returns-in-None-clause-leads
returns-in-None-clause-leads g c =
    let task = task_of c.args.command.now in
    let held = bytes_of (g.O.Opener.file_at c.args.files.now c.args.g.now) in
    let held_text = bytes_of (g.O.Opener.file_at c.args.files.now c.args.t.now) in
    let text = g.O.File.Source.left c.in-Ok-open.file in
    let old = g.W.Sink.written c.args.output.now in
    let new = g.W.Sink.written c.write_request_reply.new.output in
    let result = plain_result c.write_request_reply.result in
    both-outcome task held held_text text old new result c.in-Ok-open.ensures.bytes
    (opened-outcome (λ (file bytes : List ℕ). IsTextOf task file text bytes) (IsPrinted task) old new
    c.reply_line-reply.result held (g.O.File.Source.left c.in-Ok.file) result c.in-Ok.ensures.bytes
    c.write_request_reply.ensures.ends c.reply_line-reply.ensures.answer)

pub returns-in-None-clause-named : goal.returns-in-None-clause-named
returns-in-None-clause-named g c =
    let names = shown_name c.args.g.now ∷ shown_name c.args.t.now ∷ standard_output ∷ [] in
    let ended = c.write_request_reply in
    reply-among ended.result names (shown_name c.args.t.now) _ _ _ _ ended.ensures.fault ended.ensures.read
    ended.ensures.written (1, lit< tt, refl) (2, lit< tt, refl)

pub returns-clause-named : goal.returns-clause-named
returns-clause-named g c =
    let names = shown_name c.args.g.now ∷ shown_name c.args.t.now ∷ standard_output ∷ [] in
    let ended = c.write_request_reply-in_default in
    reply-among ended.result names (shown_name c.args.g.now) _ _ _ _ ended.ensures.fault ended.ensures.read
    ended.ensures.written (0, lit< tt, refl) (2, lit< tt, refl)
