use Rattle.std.proofs.Common.{◌≡◌, ℕ, List, length}
use Rattle.peg_records.specs.Readers.{IsAheadOf, rest_of, settings_of}
use Rattle.peg_coverage_files.specs.CoverRuns.{CoversFirst}
use Rattle.peg_coverage_files.specs.CoverTerms.{AreTermsOf, CoverTerms}
use Rattle.peg_coverage_files.proofs.cover_run.CoverRun.cover_block.Given as goal

-- the first records are covered
abbrev pub invariant-records : goal.invariant-records
invariant-records l = record {
  settings : settings_of l.self.reader ≡ settings_of l.initial.self.reader;
  size : length l.self.covered.used ≡ length l.initial.self.covered.used;
  first : (terms : CoverTerms) (left : List ℕ) (ahead : List (List ℕ)) → AreTermsOf l.parser l.query terms
      → IsAheadOf l.initial.self.reader left ahead → CoversFirst terms left ahead l.initial.self l.self;
}

abbrev pub decreases-records : goal.decreases-records
decreases-records l = length (rest_of l.self.reader)
