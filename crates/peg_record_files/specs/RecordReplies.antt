-- What is written for records.
use Rattle.std.specs.Prelude.{◌≡◌, ℕ, Bool, true, false, List, [], ◌∷◌, ◌++◌, Option, Result, Ok, Err, if◌then◌else◌, take}
use Rattle.std.specs.Io.KnownBytes.{Appends}
use Rattle.peg_records.specs.declared.end.RecordEnd.{RecordEnd}
use Rattle.peg_record_files.specs.Places.{first_place, next_place}
use Rattle.peg_record_files.specs.declared.fault.RecordsFault.{RecordsFault}
use Rattle.peg_record_files.specs.declared.filter.RecordFilter.{RecordFilter}
use Rattle.peg_record_files.specs.declared.filter.RecordFilter.TheVariants as filter
use Rattle.peg_record_files.specs.declared.outcome.RecordOutcome.{RecordOutcome}
use Rattle.peg_record_files.specs.declared.outcome.RecordOutcome.TheVariants.{Matches, Differs, Refused}
use Rattle.peg_record_files.specs.declared.place.RecordPlace.{RecordPlace}

-- the worse of two outcomes: a record that is refused is worse than one that doesn't match
abbrev pub worse_outcome : RecordOutcome → RecordOutcome → RecordOutcome
worse_outcome Matches other = other
worse_outcome Differs Matches = Differs
worse_outcome Differs Differs = Differs
worse_outcome Differs Refused = Refused
worse_outcome Refused other = Refused

-- whether a record with this outcome has a line
abbrev pub has_line : RecordFilter → RecordOutcome → Bool
has_line filter.All outcome = true
has_line filter.Matched Matches = true
has_line filter.Matched Differs = false
has_line filter.Matched Refused = false
has_line filter.Failed Matches = false
has_line filter.Failed Differs = true
has_line filter.Failed Refused = true

-- each line that a record may have by one definition of replies, it may have by another
abbrev pub ImpliesReply : (P Q : RecordPlace → (text line : List ℕ) → RecordOutcome → Type 0) → Type 0
ImpliesReply P Q = (place : RecordPlace) (text line : List ℕ) (outcome : RecordOutcome) → P place text line outcome
    → Q place text line outcome

-- What is written for records from a place on: their lines in order, of those that have one. `worst` is the worst of their
-- outcomes, and `after` the place after them. `IsReply` says which line and which outcome a record may have at its place.
pub data HaveRepliesTo (IsReply : RecordPlace → (text line : List ℕ) → RecordOutcome → Type 0) (filter : RecordFilter)
    (end : RecordEnd) : (place : RecordPlace) → (texts : List (List ℕ)) → (written : List ℕ) → (worst : RecordOutcome)
    → (after : RecordPlace) → Type 0 where
  no_record : {place : RecordPlace} → HaveRepliesTo IsReply filter end place [] [] Matches place
  a_record : {place after : RecordPlace} {text line later : List ℕ} {texts : List (List ℕ)} {outcome worst : RecordOutcome}
      → IsReply place text line outcome
      → HaveRepliesTo IsReply filter end (next_place end place text outcome) texts later worst after
      → HaveRepliesTo IsReply filter end place (text ∷ texts) ((if has_line filter outcome then line else []) ++ later)
      (worse_outcome outcome worst) after

-- what is written for records from a place on, and the worst of their outcomes
abbrev pub HaveReplies : (IsReply : RecordPlace → (text line : List ℕ) → RecordOutcome → Type 0) → RecordFilter
    → RecordEnd → RecordPlace → (texts : List (List ℕ)) → (written : List ℕ) → (worst : RecordOutcome) → Type 0
HaveReplies IsReply filter end place texts written worst =
    (after : RecordPlace) × HaveRepliesTo IsReply filter end place texts written worst after

-- a part of what is written for records: the start of what is written for the first of them
pub record HaveRepliesInPart (IsReply : RecordPlace → (text line : List ℕ) → RecordOutcome → Type 0)
    (filter : RecordFilter) (end : RecordEnd) (place : RecordPlace) (texts : List (List ℕ)) (part : List ℕ) : Type 0 where
  pub first : List (List ℕ)
  pub later : List (List ℕ)
  pub all : texts ≡ first ++ later
  pub written : List ℕ
  pub worst : RecordOutcome
  pub replies : HaveReplies IsReply filter end place first written worst
  pub count : ℕ
  pub is : part ≡ take count written

-- What is written for the records of texts, from the first place on: the lines of all records, whose worst outcome is returned;
-- with a fault, a part of them.
abbrev pub WritesReplies : (IsReply : RecordPlace → (text line : List ℕ) → RecordOutcome → Type 0)
    → RecordFilter → RecordEnd → (texts : List (List ℕ)) → (old new : Option (List ℕ)) → Result RecordOutcome RecordsFault → Type 0
WritesReplies IsReply filter end texts old new (Ok worst) =
    (written : List ℕ) × HaveReplies IsReply filter end first_place texts written worst × Appends old new written
WritesReplies IsReply filter end texts old new (Err fault) =
    (part : List ℕ) × HaveRepliesInPart IsReply filter end first_place texts part × Appends old new part
