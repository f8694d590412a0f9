use Rattle.std.proofs.Common.{◌≡◌, ℕ, take, map}
use Rattle.peg_bytes.specs.ByteSet.{bytes_of, has}
use Rattle.peg_metagrammar.specs.Ranges.{in_ranges}
use Rattle.peg_metagrammar.specs.RangesCode.{range_of}
use Rattle.peg_metagrammar.proofs.ranges.set_of_ranges.Given as goal

-- the set contains exactly the bytes in the ranges visited so far
abbrev pub invariant-loop-range : goal.invariant-loop-range
invariant-loop-range l =
    (byte : ℕ) → has (bytes_of l.set) byte ≡ in_ranges (map range_of (take l.range-index l.ranges)) byte
