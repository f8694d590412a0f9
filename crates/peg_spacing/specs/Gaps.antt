-- Gaps: what may stand between the words of a text. A gap has blanks, and maybe comments, which begin with a sign. This
-- is the project's own definition.
use Rattle.std.specs.Prelude.{ℕ, zero, suc, ◌==◌, Bool, true, not, ◌&&◌, ◌||◌, if◌then◌else◌, List, [], ◌∷◌, bytes_eq, map}
use Rattle.std.specs.Prelude.{Option, None, Some, nat_le, nat_lt, position, slice_index_or}
use Rattle.std.specs.Char.{is_ascii_alphanumeric}
use Rattle.std.specs.List.{list_all}
use Rattle.peg_bytes.specs.ByteSet.{Bytes, has}
use Rattle.peg_semantics.specs.Form.{Form, Forms, Literal, Class, Name, Seq, Choice, Plus, End, Then}
use Rattle.peg_semantics.specs.Rules.{Rule, names}
use Rattle.peg_spacing.specs.declared.gaps.Gap.{Gap}
use Rattle.peg_spacing.specs.declared.gaps.Gap.TheVariants.{Blanks, Comment, Other}

-- ---- bytes

-- a space, or a byte from tab (9) to carriage return (13)
abbrev pub is_space : ℕ → Bool
is_space byte = byte == 32 || (nat_le 9 byte && nat_le byte 13)

-- an ASCII byte that is neither a letter nor a digit nor an underscore (95)
abbrev pub is_sign : ℕ → Bool
is_sign byte = nat_lt byte 128 && not (is_ascii_alphanumeric byte) && not (byte == 95)

abbrev pub are_spaces : List ℕ → Bool
are_spaces bytes = list_all is_space bytes

-- each number below a limit passes a test
abbrev pub all_below : (ℕ → Bool) → (limit : ℕ) → Bool
all_below test zero = true
all_below test (suc n) = all_below test n && test n

-- each byte of a set passes a test
unfoldable pub has_only : (ℕ → Bool) → Bytes → Bool
has_only test set = all_below (λ byte. not (has set byte) || test byte) 256

-- ---- what an expression begins with

-- a literal: blanks alone, or a sign first
abbrev pub gap_of_bytes : List ℕ → Gap
gap_of_bytes [] = Other
gap_of_bytes (byte ∷ rest) =
    if are_spaces (byte ∷ rest) then Blanks else if is_sign byte then Comment else Other

-- a class: blanks alone, or signs alone
abbrev pub gap_of_set : Bytes → Gap
gap_of_set set = if has_only is_space set then Blanks else if has_only is_sign set then Comment else Other

-- a rule, by what its expression begins with
abbrev pub gap_at : List Gap → (rule : Option ℕ) → Gap
gap_at gaps None = Other
gap_at gaps (Some rule) = slice_index_or gaps rule Other

-- A sequence, by its first item: a comment, if that begins with a sign or a blank.
abbrev pub gap_of_start : Gap → Gap
gap_of_start Other = Other
gap_of_start gap = Comment

-- Two alternatives: blanks if one of them is, and the other one is no other thing.
abbrev pub either_gap : Gap → Gap → Gap
either_gap Other second = Other
either_gap first Other = Other
either_gap Comment Comment = Comment
either_gap first second = Blanks

-- An expression, given what each rule begins with. A repetition or a predicate at the start counts as another thing.
abbrev mutual
  pub gap_of : List Rule → List Gap → Form → Gap
  gap_of rules gaps (Literal bytes span) = gap_of_bytes bytes
  gap_of rules gaps (Class set span) = gap_of_set set
  gap_of rules gaps (Name name span) = gap_at gaps (position (bytes_eq name) (names rules))
  gap_of rules gaps (Seq items span) = gap_of_first rules gaps items
  gap_of rules gaps (Choice first rest span) =
      either_gap (gap_of rules gaps first) (gap_of_alternatives rules gaps rest)
  gap_of rules gaps (Plus part span) = gap_of rules gaps part
  gap_of rules gaps other = Other

  pub gap_of_first : List Rule → List Gap → Forms → Gap
  gap_of_first rules gaps End = Other
  gap_of_first rules gaps (Then first rest) = gap_of_start (gap_of rules gaps first)

  pub gap_of_alternatives : List Rule → List Gap → Forms → Gap
  gap_of_alternatives rules gaps End = Comment
  gap_of_alternatives rules gaps (Then e rest) = either_gap (gap_of rules gaps e) (gap_of_alternatives rules gaps rest)

-- What each rule begins with, through at most n names.
abbrev pub gaps_in : List Rule → (n : ℕ) → List Gap
gaps_in rules zero = []
gaps_in rules (suc n) = map (λ rule. gap_of rules (gaps_in rules n) rule.body) rules
