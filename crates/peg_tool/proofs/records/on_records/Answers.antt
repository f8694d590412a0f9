use Rattle.std.proofs.Common.{List, map, string_bytes, ℕ}
use Rattle.peg_io.specs.NamedFile.{bytes_of}
use Rattle.peg_messages.specs.FileNames.{shown_name}
use Rattle.peg_replies.specs.Commands.{parse_task}
use Rattle.peg_replies.specs.RecordParsers.{IsPreparedFor}
use Rattle.peg_tool.specs.CommandOutcome.{RecordsOutcome}
use Rattle.peg_tool.specs.Faults.{plain_result, record_streams}
use Rattle.peg_tool.proofs.RecordsLemmas.{records-among, records-opened}
use Rattle.peg_tool.proofs.records.on_records.Goals as goal

pub returns-in-Ok-prepare_records-clause-leads : goal.returns-in-Ok-prepare_records-clause-leads
returns-in-Ok-prepare_records-clause-leads g c =
    let file_at = g.O.Opener.file_at c.args.files.now in
    let parse = c.args.parse.now in
    let prepared = c.in-Ok-prepare_records.prepared in
    records-opened (bytes_of (file_at c.args.g.now)) (g.O.File.Source.left c.in-Ok.file)
    (λ (file : List ℕ). IsPreparedFor file parse.options parse.printing prepared)
    (λ (file : List ℕ). RecordsOutcome (parse_task parse.options parse.printing) file
    (map string_bytes parse.query.texts.now) parse.query.end parse.query.filter file_at (g.I.Source.left c.args.input.now)
    (g.W.Sink.written c.args.output.now) (g.W.Sink.written c.write_prepared.new.output)
    (plain_result c.write_prepared.result)) c.in-Ok.ensures.bytes c.in-Ok-prepare_records.ensures.prepared
    (λ file known. c.write_prepared.ensures.leads file parse.options parse.printing known)

pub returns-in-Ok-prepare_records-clause-named : goal.returns-in-Ok-prepare_records-clause-named
returns-in-Ok-prepare_records-clause-named g c =
    let ends = c.write_prepared.ensures.ends in
    records-among (shown_name c.args.g.now) (record_streams (map string_bytes c.args.parse.now.query.texts.now))
    (g.W.Sink.failed c.write_prepared.new.output) _ c.write_prepared.result ends.cause ends.output
