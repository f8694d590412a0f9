-- Byte sets by number.
use Rattle.std.specs.Prelude.{◌≡◌, ℕ, ◌≤◌, List, [], ◌++◌, length, slice_index_or}
use Rattle.peg_bytes.specs.declared.byte_set.ByteSet.{ByteSet}

-- the set with a number, or the empty set if there is none
abbrev pub set_at : List ByteSet → ℕ → ByteSet
set_at sets number = slice_index_or sets number (record { words = [] })

-- at most one set was appended
pub record AddsSets (old new : List ByteSet) : Type 0 where
  pub more : List ByteSet
  pub added : new ≡ old ++ more
  pub few : length more ≤ 1
