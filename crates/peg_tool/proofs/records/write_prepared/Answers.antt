use Rattle.std.proofs.Common.{inl, map, string_bytes, subst}
use Rattle.peg_parser.specs.declared.options.ParseOptions.{ParseOptions}
use Rattle.peg_replies.specs.Commands.{parse_task}
use Rattle.peg_replies.specs.RecordParsers.{IsPreparedFor}
use Rattle.peg_replies.specs.declared.tree_printing.TreePrinting.{TreePrinting}
use Rattle.peg_tool.specs.CommandOutcome.{RecordsOutcome}
use Rattle.peg_tool.specs.Faults.{plain_result}
use Rattle.peg_tool.proofs.RecordsLemmas.{records-refused, refusal-end}
use Rattle.peg_tool.proofs.records.write_prepared.Goals as goal

pub returns-in-Refused-clause-leads : goal.returns-in-Refused-clause-leads
returns-in-Refused-clause-leads g c file options printing is =
    inl (records-refused (parse_task options printing) file c.in-Refused.line (g.W.Sink.written c.args.output.now)
    (g.W.Sink.written c.write_request_line.new.output) (plain_result c.write_request_line.result)
    (subst (IsPreparedFor file options printing) c.in-Refused.is is) c.write_request_line.ensures.ends)

pub returns-in-Refused-clause-ends : goal.returns-in-Refused-clause-ends
returns-in-Refused-clause-ends g c =
    refusal-end (g.O.Opener.file_at c.args.files.now) (map string_bytes c.args.query.now.texts.now)
    (g.I.Source.failed c.args.input.now) (g.W.Sink.failed c.write_request_line.new.output) _ _
    c.write_request_line.result c.requires.input_works c.write_request_line.ensures.fault
    c.write_request_line.ensures.named

pub returns-in-Ready-clause-leads : goal.returns-in-Ready-clause-leads
returns-in-Ready-clause-leads g c file options printing is =
    let parser = c.in-Ready.parser in
    let known = subst (IsPreparedFor file options printing) c.in-Ready.is is in
    let query = c.args.query.now in
    let Ends = λ (o : ParseOptions) (p : TreePrinting). RecordsOutcome (parse_task o p) file
    (map string_bytes query.texts.now) query.end query.filter (g.O.Opener.file_at c.args.files.now)
    (g.I.Source.left c.args.input.now) (g.W.Sink.written c.args.output.now)
    (g.W.Sink.written c.write_by_parser.new.output) (plain_result c.write_by_parser.result) in
    subst (λ (p : TreePrinting). Ends options p) known.2
    (subst (λ (o : ParseOptions). Ends o parser.printing) known.1 (c.write_by_parser.ensures.leads file known.0))
