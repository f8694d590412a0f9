use Rattle.std.proofs.Common.{◌∙◌, Err, ap, map, string_bytes}
use Rattle.peg_tool.specs.Faults.{plain_fault, plain_result}
use Rattle.peg_tool.specs.WordRequests.{cover_question}
use Rattle.peg_tool.proofs.RecordCoverageLemmas.{cover-end, coverage-unwritten, coverage-written, file-result, keeps-same, never-true}
use Rattle.peg_tool.proofs.RecordsLemmas.{reads-alone, refusal-end}
use Rattle.peg_tool.proofs.covering_records.cover_by_grammar.Goals as goal

pub returns-in-Ok-clause-leads : goal.returns-in-Ok-clause-leads
returns-in-Ok-clause-leads g c file of =
    coverage-written (cover_question c.args.query.now) file (g.O.Opener.file_at c.args.files.now)
    (g.I.Source.left c.args.input.now) (g.W.Sink.written c.args.output.now)
    (g.W.Sink.written c.write_coverage.new.output) c.in-Ok.reply (plain_result c.write_coverage.result)
    (c.in-Ok.ensures.answer file of) c.write_coverage.ensures.writes

pub returns-in-Ok-clause-ends : goal.returns-in-Ok-clause-ends
returns-in-Ok-clause-ends g c =
    let works = never-true (g.I.Source.failed c.records_reply.new.input) (λ bad. let no = c.in-Ok.ensures.read bad in cc) in
    refusal-end (g.O.Opener.file_at c.args.files.now) (map string_bytes c.args.query.now.texts.now)
    (g.I.Source.failed c.records_reply.new.input) (g.W.Sink.failed c.write_coverage.new.output) _ _
    c.write_coverage.result works c.write_coverage.ensures.fault c.write_coverage.ensures.named

pub returns-in-Err-clause-leads : goal.returns-in-Err-clause-leads
returns-in-Err-clause-leads g c file of =
    coverage-unwritten (cover_question c.args.query.now) file (g.O.Opener.file_at c.args.files.now)
    (g.I.Source.left c.args.input.now) (g.W.Sink.written c.args.output.now) (g.W.Sink.written c.args.output.now)
    (plain_fault c.in-Err.fault) (keeps-same (g.W.Sink.written c.args.output.now))

pub returns-in-Err-clause-ends : goal.returns-in-Err-clause-ends
returns-in-Err-clause-ends g c =
    let names = map string_bytes c.args.query.now.texts.now in
    let failed = g.I.Source.failed c.records_reply.new.input in
    cover-end (g.O.Opener.file_at c.args.files.now) names failed (g.I.Source.fault_kind c.records_reply.new.input)
    (g.W.Sink.failed c.args.output.now) (g.W.Sink.fault_kind c.args.output.now) (Err c.in-Err.fault)
    c.requires.output_works c.in-Err.ensures.fault (λ bad. file-result c.in-Err.fault (c.in-Err.ensures.read bad))
    (reads-alone names failed (λ some. ap g.I.Source.failed (c.in-Err.ensures.unread some) ∙ c.requires.input_works))
