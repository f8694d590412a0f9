-- The records of a stream of bytes.
use Rattle.std.specs.Prelude.{ℕ, ◌+◌, Bool, List, [], ◌∷◌, ◌==◌, length, if◌then◌else◌}
use Rattle.std.specs.List.{count_by, slice_split}
use Rattle.std.specs.Str.Lines.{strip_carriage_return}
use Rattle.peg_records.specs.declared.end.RecordEnd.{RecordEnd}
use Rattle.peg_records.specs.declared.end.RecordEnd.TheVariants.{Line, CrLf, Zero}

-- the byte at which a record ends
abbrev pub end_byte : RecordEnd → ℕ
end_byte Line = 10
end_byte CrLf = 10
end_byte Zero = 0

abbrev pub is_end : RecordEnd → ℕ → Bool
is_end end byte = byte == end_byte end

-- the record in the bytes before its end: with `CrLf`, without a carriage return right before the end
abbrev pub record_of : RecordEnd → List ℕ → List ℕ
record_of Line part = part
record_of CrLf part = strip_carriage_return part
record_of Zero part = part

-- a line feed
abbrev pub is_line_feed : ℕ → Bool
is_line_feed byte = byte == 10

-- how many line feeds a record has, with its end
abbrev pub line_feeds_of : RecordEnd → (text : List ℕ) → ℕ
line_feeds_of Line text = 1
line_feeds_of CrLf text = 1
line_feeds_of Zero text = count_by is_line_feed text

-- the same, where this many line feeds of the record are lost, and the other bytes are kept
abbrev pub line_feeds_found : RecordEnd → (lost : ℕ) → (kept : List ℕ) → ℕ
line_feeds_found Line lost kept = 1
line_feeds_found CrLf lost kept = 1
line_feeds_found Zero lost kept = lost + count_by is_line_feed kept

-- the records in the parts of a stream: those before an end, and the last part if it isn't empty
abbrev pub records_of_parts : RecordEnd → List (List ℕ) → List (List ℕ)
records_of_parts end [] = []
records_of_parts end (part ∷ []) = if length part == 0 then [] else part ∷ []
records_of_parts end (part ∷ next ∷ parts) = record_of end part ∷ records_of_parts end (next ∷ parts)

-- the records of a stream
abbrev pub records : RecordEnd → List ℕ → List (List ℕ)
records end bytes = records_of_parts end (slice_split (is_end end) bytes)
