-- Sets of bytes, as definitions use them.
use Rattle.std.specs.Prelude.{ℕ, ◌+◌, ◌/◌, ◌%◌, Bool, true, false, List, map, max, replicate, ◌==◌, slice_index}
use Rattle.std.specs.Prelude.{slice_index_or}
use Rattle.std.specs.Int.{bit_at}
use Rattle.std.specs.List.{list_any, range_with_len}
use Rattle.peg_bytes.specs.declared.byte_set.ByteSet.{ByteSet}

-- a set of bytes: the flag at index n says whether byte n is in the set; bytes past the end of the list are not
abbrev pub Bytes : Type 0
Bytes = List Bool

-- whether a byte is in the set
abbrev pub has : Bytes → ℕ → Bool
has set byte = slice_index_or set byte false

-- the flag of a byte in a bitmap of 64-bit words, lowest bytes first
abbrev pub flag_of : List ℕ → ℕ → Bool
flag_of words byte = bit_at (slice_index words (byte / 64)) (byte % 64) == 1

-- the set that a `ByteSet` represents, as the flags of all 256 bytes
unfoldable pub bytes_of : ByteSet → Bytes
bytes_of set = map (flag_of set.words) (range_with_len 0 256)

-- whether the set has at least one byte
abbrev pub has_some : Bytes → Bool
has_some set = list_any (λ (flag : Bool). flag) set

-- the set of one byte, and the set of all 256 bytes
unfoldable pub only : ℕ → Bytes
only byte = map (λ other. other == byte) (range_with_len 0 (max 256 (byte + 1)))

unfoldable pub all_bytes : Bytes
all_bytes = replicate 256 true
