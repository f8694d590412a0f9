use Rattle.std.proofs.Common.{◌≡◌, ℕ, ◌+◌, ◌<◌, ◌≤◌, false, max}
use Rattle.peg_bytes.specs.ByteSet.{bytes_of, has}
use Rattle.peg_lint.proofs.classes.have_common_byte.Given as goal

-- the set has none of the bytes from the first one up to the next byte
abbrev pub invariant-loop-byte : goal.invariant-loop-byte
invariant-loop-byte l =
    ((other : ℕ) → l.fn.bytes.low ≤ other → other < l.byte → has (bytes_of l.set) other ≡ false)
    × (l.byte ≤ max l.fn.bytes.low (l.fn.bytes.high + 1))
