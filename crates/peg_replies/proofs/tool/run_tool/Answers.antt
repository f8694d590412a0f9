use Rattle.std.proofs.Common.{ℕ, List}
use Rattle.peg_replies.specs.Commands.{task_of}
use Rattle.peg_replies.specs.Replies.{IsPrinted}
use Rattle.peg_replies.specs.Task.{IsTextOf}
use Rattle.peg_replies.proofs.EndLemmas.{file-prints, file-in_part}
use Rattle.peg_replies.proofs.tool.run_tool.Goals as goal

pub returns-clause-answer : goal.returns-clause-answer
returns-clause-answer g c =
    let task = task_of c.args.command.now in
    let IsText = λ (file bytes : List ℕ). IsTextOf task file (g.T.Source.left c.args.text.now) bytes in
    file-prints IsText (IsPrinted task) (g.W.Sink.written c.args.output.now) (g.W.Sink.written c.write_tool_reply.new.output)
    c.reply_line-reply.result (g.G.Source.left c.args.grammar.now) c.write_tool_reply.result c.write_tool_reply.ensures.ends
    c.reply_line-reply.ensures.answer

pub returns-clause-partly_written : goal.returns-clause-partly_written
returns-clause-partly_written g c =
    let task = task_of c.args.command.now in
    let IsText = λ (file bytes : List ℕ). IsTextOf task file (g.T.Source.left c.args.text.now) bytes in
    file-in_part IsText (IsPrinted task) (g.W.Sink.written c.args.output.now) (g.W.Sink.written c.write_tool_reply.new.output)
    c.reply_line-reply.result (g.G.Source.left c.args.grammar.now) c.write_tool_reply.result c.write_tool_reply.ensures.ends
    c.reply_line-reply.ensures.answer
