-- Habits of other notations, as tests of the texts of classes, ranges and literals, with their brackets and quotes.
use Rattle.std.specs.Prelude.{ℕ, ◌≤◌, Bool, true, false, IsFalse, ◌==◌, ◌&&◌, ◌||◌, not, nat_eq, nat_le, nat_lt}
use Rattle.std.specs.Prelude.{List, [], ◌∷◌, length, codes, slice_range}
use Rattle.std.specs.List.{ends_with, list_any, starts_with}
use Rattle.peg_bytes.specs.Extent.{Extent}

-- the text of a file in an extent
abbrev pub text_in : (file : List ℕ) → Extent → List ℕ
text_in file span = slice_range file span.start span.end

-- an extent is within a file
pub record IsWithin (file : List ℕ) (span : Extent) : Type 0 where
  pub ordered : span.start ≤ span.end
  pub ends : span.end ≤ length file

-- one of the bytes is this one
abbrev pub holds_byte : ℕ → List ℕ → Bool
holds_byte byte text = list_any (λ b. b == byte) text

-- the text of a class begins with a caret
abbrev pub begins_with_caret : List ℕ → Bool
begins_with_caret text = starts_with nat_eq text (codes "[^")

-- the last character of the text of a range is a bracket without a backslash
abbrev pub ends_in_bracket : List ℕ → Bool
ends_in_bracket text = ends_with nat_eq text (codes "-]")

-- a byte is a digit, a capital letter or a small letter
abbrev pub is_digit : ℕ → Bool
is_digit byte = nat_le 48 byte && nat_le byte 57

abbrev pub is_capital : ℕ → Bool
is_capital byte = nat_le 65 byte && nat_le byte 90

abbrev pub is_small : ℕ → Bool
is_small byte = nat_le 97 byte && nat_le byte 122

-- a digit and a letter, or a capital letter and a small one
abbrev pub are_of_two_kinds : (low high : ℕ) → Bool
are_of_two_kinds low high = (is_digit low && (is_capital high || is_small high)) || (is_capital low && is_small high)

-- a sign between `!` and the dash, and one between the dash and the digits
abbrev pub are_signs_around_dash : (low high : ℕ) → Bool
are_signs_around_dash low high = nat_lt 33 low && (nat_lt low 45 && (nat_lt 45 high && nat_lt high 48))

-- The text of a range has three characters, and the range goes over signs: from a digit or a capital letter to a letter
-- of another kind, as `A-z`, or from a sign to another one over the dash, as `+-.`.
abbrev pub goes_over_signs : List ℕ → Bool
goes_over_signs [] = false
goes_over_signs (low ∷ []) = false
goes_over_signs (low ∷ (dash ∷ [])) = false
goes_over_signs (low ∷ (dash ∷ (high ∷ []))) = are_of_two_kinds low high || are_signs_around_dash low high
goes_over_signs (low ∷ (dash ∷ (high ∷ (next ∷ more)))) = false

-- a text goes over the end of a line
abbrev pub holds_line_end : List ℕ → Bool
holds_line_end text = holds_byte 10 text || holds_byte 13 text

-- a text has a byte that isn't ASCII
abbrev pub holds_high_byte : List ℕ → Bool
holds_high_byte text = list_any (λ b. nat_le 128 b) text

-- the text of a class has a space after its first bracket and before its last one, and something between them
abbrev pub has_blanks_around : List ℕ → Bool
has_blanks_around text =
    starts_with nat_eq text (codes "[ ") && (ends_with nat_eq text (codes " ]") && nat_le 5 (length text))

-- a text has a closing parenthesis outside comments; the first argument says whether it begins in a comment
abbrev pub has_closing : (commented : Bool) → List ℕ → Bool
has_closing commented [] = false
has_closing true (b ∷ text) = has_closing (not (b == 10) && not (b == 13)) text
has_closing false (b ∷ text) = b == 41 || has_closing (b == 35) text

-- From the end of an expression to the next rule there is no closing parenthesis outside comments: what ends there ends
-- the rule.
abbrev pub EndsRule : (file : List ℕ) → Extent → Type 0
EndsRule file span = IsWithin file span × IsFalse (has_closing false (text_in file span))
