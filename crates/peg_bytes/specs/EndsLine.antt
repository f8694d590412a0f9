-- Describes code: the test for a completed line end, which reads one byte and the next.
use Rattle.std.specs.Prelude.{ℕ, ◌==◌, Bool, false, not, ◌&&◌, ◌||◌, List, [], ◌∷◌}
use Rattle.peg_bytes.specs.Place.{carriage_return, line_feed}

-- whether the first byte completes a line end: LF, or CR not followed by LF
abbrev pub ends_line : List ℕ → Bool
ends_line [] = false
ends_line (first ∷ []) = first == line_feed || first == carriage_return
ends_line (first ∷ second ∷ rest) =
    first == line_feed || (first == carriage_return && not (second == line_feed))
