use Rattle.std.proofs.Common.{◌≡◌, ℕ, List, [], IfSome, Some, false, length, true}
use Rattle.peg_records.specs.Readers.{rest_of, settings_of}
use Rattle.peg_records.specs.Records.{records}
use Rattle.peg_coverage_files.specs.CoverRuns.{CoversFirst}
use Rattle.peg_coverage_files.specs.CoverTerms.{AreTermsOf, CoverTerms}
use Rattle.peg_coverage_files.proofs.cover_run.CoverRun.cover_stream.Given as goal

-- the records of the blocks read so far are covered, and the others are ahead
abbrev pub invariant-blocks-2 : goal.invariant-blocks-2
invariant-blocks-2 g l = record {
  settings : settings_of l.self.reader ≡ settings_of l.initial.self.reader;
  size : length l.self.covered.used ≡ length l.initial.self.covered.used;
  reads : g.S.Source.failed l.input ≡ false;
  never : g.S.Source.never_fails l.initial.input ≡ true → g.S.Source.never_fails l.input ≡ true;
  nothing : rest_of l.self.reader ≡ [];
  first : (terms : CoverTerms) → AreTermsOf l.parser l.query terms
      → IfSome (g.S.Source.left l.initial.input) (λ stream. (left : List ℕ) × (g.S.Source.left l.input ≡ Some left)
      × CoversFirst terms left (records l.initial.self.reader.end stream) l.initial.self l.self);
}
