-- Describes code: the four words of a byte set combined.
use Rattle.std.specs.Prelude.{ℕ, List, bit_or, slice_index}

-- the bitwise or of the four words
abbrev pub all_flags : List ℕ → ℕ
all_flags words =
    bit_or (bit_or (bit_or (slice_index words 0) (slice_index words 1)) (slice_index words 2)) (slice_index words 3)
