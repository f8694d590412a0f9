use Rattle.std.proofs.Common.{map, string_bytes, subst}
use Rattle.peg_tool.specs.Faults.{plain_result}
use Rattle.peg_tool.specs.PreparedCoverages.{AreParsers, IsPreparedCoverage}
use Rattle.peg_tool.specs.WordRequests.{cover_question}
use Rattle.peg_tool.proofs.RecordCoverageLemmas.{refusal-written}
use Rattle.peg_tool.proofs.RecordsLemmas.{refusal-end}
use Rattle.peg_tool.proofs.covering_records.cover_prepared.Goals as goal

pub cover_by_grammar-requires-clause-parsers : goal.cover_by_grammar-requires-clause-parsers
cover_by_grammar-requires-clause-parsers g c = subst AreParsers c.in-Ready.is c.requires.parsers

pub returns-in-Ready-clause-leads : goal.returns-in-Ready-clause-leads
returns-in-Ready-clause-leads g c file is =
    c.cover_by_grammar.ensures.leads file (subst (IsPreparedCoverage file) c.in-Ready.is is)

pub returns-in-Refused-clause-leads : goal.returns-in-Refused-clause-leads
returns-in-Refused-clause-leads g c file is =
    let question = cover_question c.args.query.now in
    refusal-written question file (g.O.Opener.file_at c.args.files.now) (g.I.Source.left c.args.input.now)
    (g.W.Sink.written c.args.output.now) (g.W.Sink.written c.write_coverage.new.output) c.in-Refused.line
    c.line_alone.result (plain_result c.write_coverage.result)
    ((subst (IsPreparedCoverage file) c.in-Refused.is is) question) c.line_alone.ensures.line c.line_alone.ensures.faults
    c.write_coverage.ensures.writes

pub returns-in-Refused-clause-ends : goal.returns-in-Refused-clause-ends
returns-in-Refused-clause-ends g c =
    refusal-end (g.O.Opener.file_at c.args.files.now) (map string_bytes c.args.query.now.texts.now)
    (g.I.Source.failed c.args.input.now) (g.W.Sink.failed c.write_coverage.new.output) _ _ c.write_coverage.result
    c.requires.input_works c.write_coverage.ensures.fault c.write_coverage.ensures.named
