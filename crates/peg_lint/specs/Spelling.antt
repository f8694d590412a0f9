-- The ranges of a class, as the lexer reads them in a grammar file (Ford 2004, section 2.1).
use Rattle.std.specs.Prelude.{◌≡◌, ℕ, ◌+◌, ◌<◌, ◌≤◌, IsTrue, List, [], ◌∷◌, Some, drop}
use Rattle.peg_bytes.specs.Extent.{Extent}
use Rattle.peg_lexer.specs.Lexical.{classed_range}
use Rattle.peg_lexer.specs.Matchers.{PrefixMatch}
use Rattle.peg_metagrammar.specs.Denotation.{Bytes}
use Rattle.peg_metagrammar.specs.Ranges.{Range, holds, range}

-- the match of a range in a class
abbrev pub range_match : Range → (length : ℕ) → PrefixMatch
range_match bytes length = record { spells = Bytes bytes ∷ []; length = length }

-- a range of a class begins at an offset of the file: what it denotes, and the length of its text
abbrev pub IsRangeAt : List ℕ → (at length : ℕ) → Range → Type 0
IsRangeAt file at length bytes = classed_range (drop at file) ≡ Some (range_match bytes length)

-- consecutive ranges lead from one offset of the file to another
pub data RangesBetween (file : List ℕ) (start : ℕ) : ℕ → Type 0 where
  none : RangesBetween file start start
  one_more : {at length : ℕ} {bytes : Range} → RangesBetween file start at → IsRangeAt file at length bytes
      → RangesBetween file start (at + length)

-- An extent has a range of the class at another extent. The ranges before it lead to it from the class's first byte
-- after the bracket.
pub record IsRangeOfClass (file : List ℕ) (class span : Extent) (bytes : Range) : Type 0 where
  pub before : RangesBetween file (class.start + 1) span.start
  pub length : ℕ
  pub read : IsRangeAt file span.start length bytes
  pub ends : span.start + length ≡ span.end
  pub within : span.end ≤ class.end

-- an extent has a range of the class whose first byte is greater than its last
abbrev pub IsReversedRange : List ℕ → (class span : Extent) → Type 0
IsReversedRange file class span =
    (low high : ℕ) × IsRangeOfClass file class span (range low high) × (high < low)

-- an extent has a range of the class with a byte of an earlier range of the class
pub record IsRepeatedRange (file : List ℕ) (class span : Extent) : Type 0 where
  pub bytes : Range
  pub is : IsRangeOfClass file class span bytes
  pub earlier : Extent
  pub earlier_bytes : Range
  pub earlier_is : IsRangeOfClass file class earlier earlier_bytes
  pub before : earlier.end ≤ span.start
  pub byte : ℕ
  pub in_it : IsTrue (holds byte bytes)
  pub in_earlier : IsTrue (holds byte earlier_bytes)
