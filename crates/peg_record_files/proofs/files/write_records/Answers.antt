use Rattle.std.specs.List.{flat_map}
use Rattle.peg_records.specs.Records.{records}
use Rattle.peg_record_files.specs.declared.fault.RecordsFault.TheVariants.{Memory}
use Rattle.peg_record_files.proofs.FileLemmas.{writes-none}
use Rattle.peg_record_files.proofs.files.write_records.Goals as goal

pub returns-in_err-run-clause-lines : goal.returns-in_err-run-clause-lines
returns-in_err-run-clause-lines g c streams are =
    writes-none (g.P.RecordPrinter.replies c.args.printer.now) c.args.query.now.filter
    c.args.query.now.end (flat_map (records c.args.query.now.end) streams) (g.W.Sink.written c.args.output.now) Memory c.from_residual.result
    c.from_residual.ensures.1
