-- The line that separates a grammar from a text: two percent signs and byte 10, LF.
use Rattle.std.specs.Prelude.{◌≡◌, ℕ, zero, suc, ◌+◌, ◌<◌, Bool, true}
use Rattle.std.specs.Prelude.{false, ◌&&◌, List, [], ◌==◌, slice_index, take, drop}

-- whether a line starts at the offset: it is 0, or the byte before it is LF
abbrev pub line_starts_at : List ℕ → ℕ → Bool
line_starts_at input zero = true
line_starts_at input (suc before) = slice_index input before == 10

-- whether a line starts at offset `position` and consists of two percent signs and LF
abbrev pub is_separator_at : List ℕ → ℕ → Bool
is_separator_at input position = line_starts_at input position && slice_index input position == 37
    && slice_index input (position + 1) == 37 && slice_index input (position + 2) == 10

-- no separator starts at an offset below the bound
abbrev pub NoneBefore : List ℕ → ℕ → Type 0
NoneBefore input bound = (position : ℕ) → position < bound → is_separator_at input position ≡ false

-- the first separator of the input starts at offset `position`
pub record IsFirstSeparator (input : List ℕ) (position : ℕ) : Type 0 where
  pub here : is_separator_at input position ≡ true
  pub first : NoneBefore input position

-- the input has no separator
abbrev pub HasNoSeparator : List ℕ → Type 0
HasNoSeparator input = (position : ℕ) → is_separator_at input position ≡ false

-- The parts of an input: the bytes before its first separator, and the bytes after the three bytes of that separator.
-- Without a separator, the parts are the whole input and nothing.
pub data IsSplit (input before after : List ℕ) : Type 0 where
  at_separator : (position : ℕ) → IsFirstSeparator input position → before ≡ take position input
      → after ≡ drop (position + 3) input → IsSplit input before after
  without_separator : HasNoSeparator input → before ≡ input → after ≡ [] → IsSplit input before after
