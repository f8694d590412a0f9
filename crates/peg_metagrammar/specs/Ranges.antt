-- Byte ranges, and the set of a character class (Ford 2004, section 2.1).
use Rattle.std.specs.Prelude.{ℕ, Bool, List, map, nat_le, ◌&&◌}
use Rattle.std.specs.List.{list_any, range_with_len}
use Rattle.peg_bytes.specs.ByteSet.{Bytes}

-- the bytes from `low` to `high`, both included; empty if `low` is greater than `high`
pub record Range : Type 0 where
  pub low : ℕ
  pub high : ℕ

abbrev pub range : ℕ → ℕ → Range
range low high = record { low = low; high = high }

-- whether a range contains a byte
abbrev pub holds : ℕ → Range → Bool
holds byte r = nat_le r.low byte && nat_le byte r.high

-- whether any of the ranges contains a byte
abbrev pub in_ranges : List Range → ℕ → Bool
in_ranges ranges byte = list_any (holds byte) ranges

-- the set of a class: the union of its ranges
unfoldable pub class_of : List Range → Bytes
class_of ranges = map (in_ranges ranges) (range_with_len 0 256)
