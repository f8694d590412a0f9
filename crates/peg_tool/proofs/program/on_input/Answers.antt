use Rattle.std.proofs.Common.{lit<, refl, ◌∷◌, []}
use Rattle.peg_tool.specs.Faults.{plain_result, standard_input, standard_output}
use Rattle.peg_replies.specs.Replies.{IsPrintedJoined}
use Rattle.peg_tool.proofs.EndLemmas.{input-outcome, reply-among}
use Rattle.peg_tool.proofs.program.on_input.Goals as goal

pub returns-clause-leads : goal.returns-clause-leads
returns-clause-leads g c =
    input-outcome IsPrintedJoined (g.W.Sink.written c.args.output.now) (g.W.Sink.written c.write_request_reply.new.output)
    c.joined_line-reply.result (g.I.Source.left c.args.input.now) (plain_result c.write_request_reply.result)
    c.write_request_reply.ensures.ends c.joined_line-reply.ensures.answer

pub returns-clause-named : goal.returns-clause-named
returns-clause-named g c =
    let ended = c.write_request_reply in
    reply-among ended.result (standard_input ∷ standard_output ∷ []) standard_input _ _ _ _ ended.ensures.fault
    ended.ensures.read ended.ensures.written (0, lit< tt, refl) (1, lit< tt, refl)
