use Rattle.peg_records.specs.Records.{records}
use Rattle.peg_record_files.proofs.FileLemmas.{fault-of-open}
use Rattle.peg_record_files.proofs.ReplyLemmas.{part-none}
use Rattle.peg_record_files.proofs.StreamLemmas.{any-known, on-ok, opened-known}
use Rattle.peg_record_files.proofs.files.write_text.Goals as goal

pub returns-in-Ok-clause-leads : goal.returns-in-Ok-clause-leads
returns-in-Ok-clause-leads g c = opened-known _ _ _ c.in-Ok.ensures.bytes c.write_source.ensures.leads

pub returns-in-Ok-clause-text : goal.returns-in-Ok-clause-text
returns-in-Ok-clause-text g c =
    fault-of-open c.write_source.result (g.O.Opener.file_at c.args.files.now) c.args.name.now
    (g.O.File.Source.never_fails c.in-Ok.source) c.in-Ok.ensures.missing c.in-Ok.ensures.readable
    c.write_source.ensures.text

pub returns-in-Err-Memory-clause-leads : goal.returns-in-Err-Memory-clause-leads
returns-in-Err-Memory-clause-leads g c =
    any-known _ _ (λ stream. part-none (g.P.RecordPrinter.replies c.args.printer.now) c.args.filter
    c.args.run.now.reader.end c.args.run.now.lines.place (records c.args.run.now.reader.end stream) (g.W.Sink.written c.args.output.now))

pub returns-in-Ok-clause-present : goal.returns-in-Ok-clause-present
returns-in-Ok-clause-present g c = on-ok c.write_source.result c.in-Ok.ensures.missing
