-- Describes code: what a run over the records of streams covers, and which records are ahead of it.
use Rattle.std.specs.Prelude.{◌≡◌, ℕ, All, Bool, List, [], ◌∷◌, ◌++◌, Option, Some, Result, Ok, Err, map}
use Rattle.peg_records.specs.Readers.{IsAheadOf, rest_of}
use Rattle.peg_records.specs.Records.{records}
use Rattle.peg_coverage_files.specs.CoverTerms.{CoverTerms}
use Rattle.peg_coverage_files.specs.CoveredTexts.{AreCovered}
use Rattle.peg_coverage_files.specs.CoveringFaults.{IsFirst, IsLong, IsShort}
use Rattle.peg_coverage_files.specs.declared.cover_run.CoverRun.{CoverRun}
use Rattle.peg_coverage_files.specs.declared.covered.CoveredTexts.{CoveredTexts}
use Rattle.peg_coverage_files.specs.declared.fault.CoveringFault.{CoveringFault}
use Rattle.peg_coverage_files.specs.declared.fault.CoveringFault.TheVariants.{File, Input, NoSuchStart, TextTooLong, Memory}

-- after whichever texts, these are covered, too
abbrev pub CoversMore : CoverTerms → (texts : List (List ℕ)) → (before after : CoveredTexts) → Type 0
CoversMore terms texts before after = (set : List Bool) (prior : List (Option (List ℕ)))
    → AreCovered terms.rules terms.start terms.settings terms.needed prior set before
    → AreCovered terms.rules terms.start terms.settings terms.needed (prior ++ map Some texts) set after

-- a text is reported as too long only if this holds
abbrev pub IfTooLong : Type 0 → CoveringFault → Type 0
IfTooLong Is (File name kind) = Unit {0}
IfTooLong Is Input = Unit {0}
IfTooLong Is NoSuchStart = Unit {0}
IfTooLong Is TextTooLong = Is
IfTooLong Is Memory = Unit {0}

-- the record is covered, or it is reported as too long, and is
abbrev pub EndsRecord : CoverTerms → (text : List ℕ) → (before after : CoverRun) → Result Unit CoveringFault → Type 0
EndsRecord terms text before after (Ok done) =
    CoversMore terms (text ∷ []) before.covered after.covered × IsShort text
EndsRecord terms text before after (Err fault) = IfTooLong (IsLong text) fault

-- of the records ahead of a run the first ones are covered, and the others are ahead
pub record CoversFirst (terms : CoverTerms) (left : List ℕ) (ahead : List (List ℕ)) (before after : CoverRun)
    : Type 0 where
  pub first : List (List ℕ)
  pub later : List (List ℕ)
  pub all : ahead ≡ first ++ later
  pub covers : CoversMore terms first before.covered after.covered
  pub short : All IsShort first
  pub rest : IsAheadOf after.reader left later

-- the same, or the first record that is too long is reported
abbrev pub EndsBlock : CoverTerms → (left : List ℕ) → (ahead : List (List ℕ)) → (before after : CoverRun)
    → Result Unit CoveringFault → Type 0
EndsBlock terms left ahead before after (Ok done) = CoversFirst terms left ahead before after
EndsBlock terms left ahead before after (Err fault) = IfTooLong (IsFirst IsShort IsLong ahead) fault

-- these records are covered, or the first one that is too long is reported
abbrev pub EndsStream : CoverTerms → (texts : List (List ℕ)) → (before after : CoverRun)
    → Result Unit CoveringFault → Type 0
EndsStream terms texts before after (Ok done) =
    CoversMore terms texts before.covered after.covered × All IsShort texts
EndsStream terms texts before after (Err fault) = IfTooLong (IsFirst IsShort IsLong texts) fault

-- a run is between two streams: its reader holds nothing
pub record IsBetween (run : CoverRun) : Type 0 where
  pub ready : (left : List ℕ) → IsAheadOf run.reader left (records run.reader.end left)
  pub nothing : rest_of run.reader ≡ []
