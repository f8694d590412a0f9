-- Describes code: what a run over records adds to lines that aren't written yet, and to the output.
use Rattle.std.specs.Prelude.{◌≡◌, ℕ, List, [], ◌++◌, Option, Some, Result, Ok, Err}
use Rattle.std.specs.Io.KnownBytes.{Appends}
use Rattle.peg_records.specs.Readers.{IsAheadOf, rest_of, settings_of}
use Rattle.peg_records.specs.Records.{records}
use Rattle.peg_records.specs.declared.end.RecordEnd.{RecordEnd}
use Rattle.peg_record_files.specs.Places.{first_place}
use Rattle.peg_record_files.specs.RecordReplies.{HaveRepliesInPart, HaveRepliesTo, worse_outcome}
use Rattle.peg_record_files.specs.declared.filter.RecordFilter.{RecordFilter}
use Rattle.peg_record_files.specs.declared.fault.StreamFault.{StreamFault}
use Rattle.peg_record_files.specs.declared.lines.RecordLines.{RecordLines}
use Rattle.peg_record_files.specs.declared.outcome.RecordOutcome.{RecordOutcome}
use Rattle.peg_record_files.specs.declared.outcome.RecordOutcome.TheVariants.{Matches}
use Rattle.peg_record_files.specs.declared.place.RecordPlace.{RecordPlace}
use Rattle.peg_record_files.specs.declared.run.RecordRun.{RecordRun}

-- no record has been read
pub record AreNoLines (lines : RecordLines) : Type 0 where
  pub place : lines.place ≡ first_place
  pub outcome : lines.outcome ≡ Matches
  pub none : lines.lines.items ≡ []

-- What is written for these records is added to some bytes, if these are known. The place is that after the records,
-- and their worst outcome is noted.
pub record AddsReplies (IsReply : RecordPlace → (text line : List ℕ) → RecordOutcome → Type 0) (filter : RecordFilter) (end : RecordEnd)
    (texts : List (List ℕ)) (before after : RecordLines) (old new : Option (List ℕ)) : Type 0 where
  pub written : List ℕ
  pub worst : RecordOutcome
  pub replies : HaveRepliesTo IsReply filter end before.place texts written worst after.place
  pub appends : Appends old new written
  pub outcome : after.outcome ≡ worse_outcome before.outcome worst

-- the same, added to the lines that aren't written yet
abbrev pub AddsToLines : (IsReply : RecordPlace → (text line : List ℕ) → RecordOutcome → Type 0) → RecordFilter → RecordEnd
    → (texts : List (List ℕ)) → (before after : RecordLines) → Type 0
AddsToLines IsReply filter end texts before after =
    AddsReplies IsReply filter end texts before after (Some before.lines.items) (Some after.lines.items)

-- a part of what is written for these records is added to some bytes, if these are known
pub record AddsPart (IsReply : RecordPlace → (text line : List ℕ) → RecordOutcome → Type 0) (filter : RecordFilter) (end : RecordEnd)
    (place : RecordPlace) (texts : List (List ℕ)) (old new : Option (List ℕ)) : Type 0 where
  pub part : List ℕ
  pub of : HaveRepliesInPart IsReply filter end place texts part
  pub appends : Appends old new part

-- Of the records that are ahead of a reader, what is written for the first ones is added, and the others are ahead.
pub record AddsFirst (IsReply : RecordPlace → (text line : List ℕ) → RecordOutcome → Type 0) (filter : RecordFilter) (end : RecordEnd)
    (left : List ℕ) (ahead : List (List ℕ)) (before after : RecordRun) (old new : Option (List ℕ)) : Type 0 where
  pub first : List (List ℕ)
  pub later : List (List ℕ)
  pub all : ahead ≡ first ++ later
  pub adds : AddsReplies IsReply filter end first before.lines after.lines old new
  pub rest : IsAheadOf after.reader left later

-- a run is between two streams: its reader holds nothing, and all lines are written
pub record IsBetween (run : RecordRun) : Type 0 where
  pub ready : (left : List ℕ) → IsAheadOf run.reader left (records run.reader.end left)
  pub nothing : rest_of run.reader ≡ []
  pub none : run.lines.lines.items ≡ []

-- the settings of the reader of a run: how records end, and their limit
abbrev pub run_settings : RecordRun → RecordEnd × ℕ
run_settings run = settings_of run.reader

-- what is written for these records is added to the output; with a fault, a part of it
abbrev pub LeadsTo : (IsReply : RecordPlace → (text line : List ℕ) → RecordOutcome → Type 0) → RecordFilter → RecordEnd
    → (texts : List (List ℕ)) → (before after : RecordRun) → (old new : Option (List ℕ)) → {E : Type 0}
    → Result Unit E → Type 0
LeadsTo IsReply filter end texts before after old new (Ok done) =
    AddsReplies IsReply filter end texts before.lines after.lines old new
LeadsTo IsReply filter end texts before after old new (Err fault) =
    AddsPart IsReply filter end before.lines.place texts old new

-- the same for the first of the records ahead
abbrev pub LeadsFirst : (IsReply : RecordPlace → (text line : List ℕ) → RecordOutcome → Type 0) → RecordFilter → RecordEnd
    → (left : List ℕ) → (ahead : List (List ℕ)) → (before after : RecordRun) → (old new : Option (List ℕ))
    → Result Unit StreamFault → Type 0
LeadsFirst IsReply filter end left ahead before after old new (Ok done) =
    AddsFirst IsReply filter end left ahead before after old new
LeadsFirst IsReply filter end left ahead before after old new (Err fault) =
    AddsPart IsReply filter end before.lines.place ahead old new
