use Rattle.std.proofs.Common.{◌≡◌, ℕ, List, Some, false, map, string_bytes, take}
use Rattle.std.specs.List.{flat_map}
use Rattle.peg_io.specs.NamedFile.{bytes_of}
use Rattle.peg_records.specs.Records.{records}
use Rattle.peg_record_files.specs.RecordReplies.{ImpliesReply}
use Rattle.peg_record_files.specs.Runs.{AddsReplies, IsBetween, run_settings}
use Rattle.peg_record_files.specs.Streams.{ArePresent}
use Rattle.peg_record_files.proofs.files.write_texts.Given as goal

-- what is written for the records of the first texts is added
abbrev pub invariant-names : goal.invariant-names
invariant-names g l = record {
  settings : run_settings l.run ≡ run_settings l.initial.run;
  printer : ImpliesReply (g.P.RecordPrinter.replies l.printer) (g.P.RecordPrinter.replies l.initial.printer);
  limit : l.run.reader.limit ≡ g.P.RecordPrinter.max_bytes l.printer;
  between : IsBetween l.run;
  works : g.W.Sink.failed l.output ≡ false;
  adds : (streams : List (List ℕ))
      → map (λ (name : List ℕ). bytes_of (g.O.Opener.file_at l.files name)) (map string_bytes (take l.name-index l.texts))
      ≡ map Some streams → AddsReplies (g.P.RecordPrinter.replies l.initial.printer) l.query.filter
      l.initial.run.reader.end (flat_map (records l.initial.run.reader.end) streams) l.initial.run.lines l.run.lines
      (g.W.Sink.written l.initial.output) (g.W.Sink.written l.output);
  present : ArePresent (g.O.Opener.file_at l.files) (map string_bytes (take l.name-index l.texts));
}
