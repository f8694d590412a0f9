-- Describes code: what a reader of records holds, and which records are ahead of it.
use Rattle.std.specs.Prelude.{◌≡◌, ℕ, Bool, true, false, List, [], ◌∷◌, drop, slice_range}
use Rattle.peg_records.specs.Ahead.{AreAhead, IsGivenFor}
use Rattle.peg_records.specs.Records.{line_feeds_of}
use Rattle.peg_records.specs.declared.end.RecordEnd.{RecordEnd}
use Rattle.peg_records.specs.declared.reader.RecordReader.{RecordReader}

-- how the records of a reader end, and their limit
abbrev pub settings_of : RecordReader → RecordEnd × ℕ
settings_of reader = (reader.end, reader.limit)

-- the bytes in memory that `next` hasn't searched
abbrev pub rest_of : RecordReader → List ℕ
rest_of reader = drop reader.searched reader.held.items

-- the record that was found
abbrev pub record_at : RecordReader → List ℕ
record_at reader = slice_range reader.held.items reader.from reader.to

-- these records are ahead of a reader, if its source has these bytes left
abbrev pub IsAheadOf : RecordReader → (left : List ℕ) → (ahead : List (List ℕ)) → Type 0
IsAheadOf reader left ahead =
    AreAhead reader.end reader.limit reader.lost (slice_range reader.held.items reader.start reader.searched) (rest_of reader) left
    ahead

-- The first record ahead is found, with its line feeds, and the others are ahead; or none is found, and all are ahead.
abbrev pub HasNext : (found : Bool) → (after : RecordReader) → (left : List ℕ) → (ahead : List (List ℕ)) → Type 0
HasNext true after left ahead = (text : List ℕ) × (later : List (List ℕ)) × (ahead ≡ text ∷ later)
    × IsGivenFor after.limit (record_at after) text × IsAheadOf after left later
    × (after.line_feeds ≡ line_feeds_of after.end text)
HasNext false after left ahead = IsAheadOf after left ahead

-- one record was ahead and is found, with its line feeds, or none was ahead
abbrev pub EndsWith : (found : Bool) → (after : RecordReader) → (ahead : List (List ℕ)) → Type 0
EndsWith true after ahead =
    (text : List ℕ) × (ahead ≡ text ∷ []) × IsGivenFor after.limit (record_at after) text
    × (after.line_feeds ≡ line_feeds_of after.end text)
EndsWith false after ahead = ahead ≡ []
