-- The records ahead of a reader of a stream.
use Rattle.std.specs.Prelude.{◌≡◌, ◌⊎◌, ℕ, ◌+◌, ◌<◌, All, false, List, ◌++◌, length}
use Rattle.std.specs.List.{count_by}
use Rattle.peg_records.specs.Records.{is_end, is_line_feed, records}
use Rattle.peg_records.specs.declared.end.RecordEnd.{RecordEnd}

-- bytes that are given of a text are the text, or both are longer than the limit
abbrev pub IsGivenFor : (limit : ℕ) → (given text : List ℕ) → Type 0
IsGivenFor limit given text = (given ≡ text) ⊎ ((limit < length given) × (limit < length text))

-- no record ends in these bytes
abbrev pub HasNoEnd : RecordEnd → List ℕ → Type 0
HasNoEnd end bytes = All (λ byte. is_end end byte ≡ false) bytes

-- These records are ahead in a stream of which `kept` is kept of the start of a record, then `rest` is in memory, and
-- `left` isn't read. A carriage return may be lost of the start, so that its limit is greater by one. `lost` is the number
-- of line feeds of the start that aren't kept.
pub record AreAhead (end : RecordEnd) (limit lost : ℕ) (kept rest left : List ℕ) (ahead : List (List ℕ)) : Type 0 where
  pub front : List ℕ
  pub given : IsGivenFor (limit + 1) kept front
  pub endless : HasNoEnd end front
  pub counted : count_by is_line_feed front ≡ lost + count_by is_line_feed kept
  pub same : ahead ≡ records end (front ++ (rest ++ left))
