use Rattle.std.proofs.Common.{◌≡◌, ℕ, All, List, Some, length, map, string_bytes, take}
use Rattle.std.specs.List.{flat_map}
use Rattle.peg_io.specs.NamedFile.{bytes_of}
use Rattle.peg_records.specs.Readers.{settings_of}
use Rattle.peg_records.specs.Records.{records}
use Rattle.peg_coverage_files.specs.CoverRuns.{CoversMore, IsBetween}
use Rattle.peg_coverage_files.specs.CoverTerms.{AreTermsOf, CoverTerms}
use Rattle.peg_coverage_files.specs.RecordFaults.{HasShortRecords}
use Rattle.peg_coverage_files.proofs.records.cover_texts.Given as goal

-- the records of the first texts are covered
abbrev pub invariant-names : goal.invariant-names
invariant-names g l = record {
  settings : settings_of l.run.reader ≡ settings_of l.initial.run.reader;
  size : length l.run.covered.used ≡ length l.initial.run.covered.used;
  between : IsBetween l.run;
  covers : (terms : CoverTerms) (streams : List (List ℕ)) → AreTermsOf l.parser l.query terms
      → map (λ (name : List ℕ). bytes_of (g.O.Opener.file_at l.files name)) (map string_bytes (take l.name-index l.texts))
      ≡ map Some streams
      → CoversMore terms (flat_map (records l.initial.run.reader.end) streams) l.initial.run.covered l.run.covered;
  short : (terms : CoverTerms) → AreTermsOf l.parser l.query terms
      → All (λ (name : List ℕ). HasShortRecords l.initial.run.reader.end (g.O.Opener.file_at l.files name))
      (map string_bytes (take l.name-index l.texts));
}
