use Rattle.std.proofs.Common.{◌≡◌, ℕ, take, map}
use Rattle.peg_bytes.specs.ByteSet.{bytes_of, has}
use Rattle.peg_metagrammar.specs.EscapesCode.{escape_of}
use Rattle.peg_metagrammar.specs.Ranges.{in_ranges}
use Rattle.peg_metagrammar.specs.SimpleEscapes.{escaped_ranges}
use Rattle.peg_metagrammar.proofs.escapes.bytes_escaped_by.Given as goal

-- the set contains exactly the bytes of the escapes visited so far
abbrev pub invariant-loop-escape : goal.invariant-loop-escape
invariant-loop-escape l =
    (byte : ℕ) → has (bytes_of l.set) byte
    ≡ in_ranges (escaped_ranges (map escape_of (take l.escape-index l.escapes))) byte
