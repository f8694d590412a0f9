use Rattle.std.proofs.Common.{List, map, string_bytes, ℕ}
use Rattle.peg_io.specs.NamedFile.{bytes_of}
use Rattle.peg_messages.specs.FileNames.{shown_name}
use Rattle.peg_tool.specs.Faults.{plain_result, record_streams}
use Rattle.peg_tool.specs.PreparedCoverages.{IsPreparedCoverage}
use Rattle.peg_tool.specs.RecordCoverage.{EndsCoverage}
use Rattle.peg_tool.specs.WordRequests.{cover_question}
use Rattle.peg_tool.proofs.RecordsLemmas.{records-among, records-opened}
use Rattle.peg_tool.proofs.covering_records.on_record_coverage.Goals as goal

pub returns-in-Ok-prepare_coverage-clause-leads : goal.returns-in-Ok-prepare_coverage-clause-leads
returns-in-Ok-prepare_coverage-clause-leads g c =
    let file_at = g.O.Opener.file_at c.args.files.now in
    records-opened (bytes_of (file_at c.args.g.now)) (g.O.File.Source.left c.in-Ok.file)
    (λ (file : List ℕ). IsPreparedCoverage file c.in-Ok-prepare_coverage.prepared)
    (λ (file : List ℕ). EndsCoverage (cover_question c.args.query.now) file file_at (g.I.Source.left c.args.input.now)
    (g.W.Sink.written c.args.output.now) (g.W.Sink.written c.cover_prepared.new.output)
    (plain_result c.cover_prepared.result)) c.in-Ok.ensures.bytes c.in-Ok-prepare_coverage.ensures.prepared
    (λ file known. c.cover_prepared.ensures.leads file known)

pub returns-in-Ok-prepare_coverage-clause-named : goal.returns-in-Ok-prepare_coverage-clause-named
returns-in-Ok-prepare_coverage-clause-named g c =
    let ends = c.cover_prepared.ensures.ends in
    records-among (shown_name c.args.g.now) (record_streams (map string_bytes c.args.query.now.texts.now))
    (g.W.Sink.failed c.cover_prepared.new.output) _ c.cover_prepared.result ends.cause ends.output
