-- The lines of the records of a stream.
use Rattle.std.specs.Prelude.{ℕ, List, ◌∷◌, ◌++◌, codes, drop}
use Rattle.std.specs.Fmt.{decimal}

-- The line of a record with this number: the line of its reply, which begins with a brace, with the number as the first
-- member.
abbrev pub record_line : (number : ℕ) → (line : List ℕ) → List ℕ
record_line number line = codes "{\"record\":" ++ decimal number ++ (44 ∷ drop 1 line)
