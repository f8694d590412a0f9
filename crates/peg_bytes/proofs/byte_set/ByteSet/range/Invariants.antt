use Rattle.std.proofs.Common.{◌≡◌, ℕ, ◌+◌, ◌≤◌, ◌&&◌, max, nat_le, nat_lt}
use Rattle.peg_bytes.specs.ByteSet.{bytes_of, has}
use Rattle.peg_bytes.proofs.byte_set.ByteSet.range.Given as goal

-- the set contains the bytes from `low` up to the next byte
abbrev pub invariant-loop-byte : goal.invariant-loop-byte
invariant-loop-byte l =
    ((other : ℕ) → has (bytes_of l.set) other ≡ (nat_le l.low other && nat_lt other l.byte))
    × (l.byte ≤ max l.low (l.high + 1))
