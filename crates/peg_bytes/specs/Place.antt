-- Line and column of an offset in a file.
use Rattle.std.specs.Prelude.{ℕ, ◌+◌, ◌-◌, ◌==◌, nat_le, ◌&&◌, ◌||◌, if◌then◌else◌}
use Rattle.std.specs.Prelude.{List, [], ◌∷◌, length, filter}

-- the greatest offset for which `place` gives a line and column
abbrev pub max_offset : ℕ
max_offset = 2147483647

-- the byte CR
abbrev pub carriage_return : ℕ
carriage_return = 13

-- the byte LF
abbrev pub line_feed : ℕ
line_feed = 10

-- The offsets after each line end of the given bytes, whose first byte is at offset `place`. Line ends are matched
-- greedily from left to right: CR LF, else LF, else CR (Ford 2004, figure 1: EndOfLine).
unfoldable pub line_ends : ℕ → List ℕ → List ℕ
line_ends place [] = []
line_ends place (first ∷ []) = if first == line_feed || first == carriage_return then (place + 1) ∷ [] else []
line_ends place (first ∷ second ∷ rest) =
    if first == carriage_return && second == line_feed then (place + 2) ∷ line_ends (place + 2) rest else
    if first == line_feed || first == carriage_return then (place + 1) ∷ line_ends (place + 1) (second ∷ rest) else
    line_ends (place + 1) (second ∷ rest)

-- the line ends of a file that are complete at or before offset `at`
abbrev pub ends_up_to : List ℕ → ℕ → List ℕ
ends_up_to file at = filter (λ end. nat_le end at) (line_ends 0 file)

-- the last offset of the list, or `place` if the list is empty
abbrev pub last_or : ℕ → List ℕ → ℕ
last_or place [] = place
last_or place (end ∷ ends) = last_or end ends

-- the line of an offset, from 1: one more than the number of complete line ends before it
abbrev pub line_at : List ℕ → ℕ → ℕ
line_at file at = 1 + length (ends_up_to file at)

-- the column of an offset in bytes, from 1
abbrev pub column_at : List ℕ → ℕ → ℕ
column_at file at = 1 + (at - last_or 0 (ends_up_to file at))
