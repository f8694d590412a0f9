-- Where records are among the records of texts.
use Rattle.std.specs.Prelude.{ℕ, ◌+◌, List}
use Rattle.peg_records.specs.Records.{line_feeds_of}
use Rattle.peg_records.specs.declared.end.RecordEnd.{RecordEnd}
use Rattle.peg_record_files.specs.declared.outcome.RecordOutcome.{RecordOutcome}
use Rattle.peg_record_files.specs.declared.outcome.RecordOutcome.TheVariants.{Matches, Differs, Refused}
use Rattle.peg_record_files.specs.declared.place.RecordPlace.{RecordPlace}

-- the place of the first record
abbrev pub first_place : RecordPlace
first_place = record { number = 1; line_feeds = 0; failed = 0 }

-- how many failed records a record with this outcome is: one that doesn't match or is refused has failed
abbrev pub failures : RecordOutcome → ℕ
failures Matches = 0
failures Differs = 1
failures Refused = 1

-- the place after a record with this outcome
abbrev pub next_place : RecordEnd → RecordPlace → (text : List ℕ) → RecordOutcome → RecordPlace
next_place end place text outcome = record {
  number = place.number + 1;
  line_feeds = place.line_feeds + line_feeds_of end text;
  failed = place.failed + failures outcome;
}
