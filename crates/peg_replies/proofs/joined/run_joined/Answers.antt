use Rattle.peg_replies.specs.Replies.{IsPrintedJoined}
use Rattle.peg_replies.proofs.EndLemmas.{input-prints, input-in_part}
use Rattle.peg_replies.proofs.joined.run_joined.Goals as goal

pub returns-clause-answer : goal.returns-clause-answer
returns-clause-answer g c =
    input-prints IsPrintedJoined (g.W.Sink.written c.args.output.now) (g.W.Sink.written c.write_tool_reply.new.output)
    c.joined_line-reply.result (g.G.Source.left c.args.input.now) c.write_tool_reply.result c.write_tool_reply.ensures.ends
    c.joined_line-reply.ensures.answer

pub returns-clause-partly_written : goal.returns-clause-partly_written
returns-clause-partly_written g c =
    input-in_part IsPrintedJoined (g.W.Sink.written c.args.output.now) (g.W.Sink.written c.write_tool_reply.new.output)
    c.joined_line-reply.result (g.G.Source.left c.args.input.now) c.write_tool_reply.result c.write_tool_reply.ensures.ends
    c.joined_line-reply.ensures.answer
