-- Describes code: the results of the lexer's functions, in terms of the definitions.
use Rattle.std.specs.Prelude.{ℕ, ◌+◌, List, [], ◌∷◌, take, map, min, Option, None, Some, option_map, unwrap_or}
use Rattle.std.specs.Prelude.{if◌then◌else◌}
use Rattle.peg_lexer.specs.Lexical.{ScannedToken, token, escape, count}
use Rattle.peg_lexer.specs.Matchers.{PrefixMatch}
use Rattle.peg_metagrammar.specs.RangesCode.{range_of}
use Rattle.peg_metagrammar.specs.Denotation as figure
use Rattle.peg_metagrammar.specs.Denotation.{Denotation, Byte, Bytes, byte_spelled, bounds, bounds_spelled, bounds_in_range}
use Rattle.peg_metagrammar.specs.Denotation.{numerals_in}
use Rattle.peg_lexer.specs.declared.counts.Bounds.{Bounds}
use Rattle.peg_lexer.specs.declared.counts.CountText.{CountText}
use Rattle.peg_lexer.specs.declared.counts.NumberText.{NumberText}
use Rattle.peg_lexer.specs.declared.scan.Scanned.{Scanned}
use Rattle.peg_lexer.specs.declared.scan_literals.Char.{Char}
use Rattle.peg_lexer.specs.declared.scan_literals.SpelledRange.{SpelledRange}
use Rattle.peg_lexer.specs.declared.token.TokenKind.{TokenKind}

-- the kind of a token and the length of its text
pub record TokenView : Type 0 where
  pub kind : TokenKind
  pub length : ℕ

-- the result of the code for the token at the start of the bytes
abbrev pub view_of_scanned : Option Scanned → Option TokenView
view_of_scanned front = option_map (λ found. record { kind = found.kind; length = found.length }) front

-- the result that the definitions require
abbrev pub view_of_token : ScannedToken → TokenView
view_of_token found = record { kind = found.kind; length = found.text.length }

abbrev pub token_view : List ℕ → Option TokenView
token_view rest = option_map view_of_token (token rest)

-- the match of a character
abbrev pub char_piece : Char → PrefixMatch
char_piece char = record { spells = Byte char.byte ∷ []; length = char.length }

-- the match of a range in a class
abbrev pub range_piece : SpelledRange → PrefixMatch
range_piece item = record { spells = Bytes (range_of item.bytes) ∷ []; length = item.length }

-- the character that consists of a backslash and the escape at the start of the bytes
abbrev pub escaped_char : List ℕ → Option PrefixMatch
escaped_char rest =
    option_map (λ (piece : PrefixMatch). record {
      spells = Byte (byte_spelled (92 ∷ take piece.length rest)) ∷
          [];
      length = 1 + piece.length;
    }) (escape rest)

-- what a match denotes; nothing, if there is no match
abbrev pub spells_of : Option PrefixMatch → List Denotation
spells_of found = unwrap_or (option_map (λ (piece : PrefixMatch). piece.spells) found) []

-- ---- counts

-- a number as the code represents it, saturated at 256
abbrev pub saturated_number : ℕ → ℕ
saturated_number number = min 256 number

-- bounds as the code represents them
abbrev pub saturated_bounds : figure.Bounds → figure.Bounds
saturated_bounds spelled = bounds (saturated_number spelled.min) (saturated_number spelled.max)

-- the numbers of a match, and its length
pub record NumbersView : Type 0 where
  pub numbers : List ℕ
  pub length : ℕ

-- the code's result for a number, and the result that the definitions require
abbrev pub number_view : NumberText → NumbersView
number_view number = record { numbers = number.value ∷ []; length = number.length }

abbrev pub numbers_found : PrefixMatch → NumbersView
numbers_found piece = record { numbers = map saturated_number (numerals_in piece.spells); length = piece.length }

-- the bounds of a count, and its length
pub record CountView : Type 0 where
  pub bounds : figure.Bounds
  pub length : ℕ

-- the code's result for a count, and the result that the definitions require
abbrev pub count_view : CountText → CountView
count_view count = record { bounds = bounds count.min count.max; length = count.length }

abbrev pub count_found : PrefixMatch → CountView
count_found piece =
    record { bounds = saturated_bounds (bounds_spelled (numerals_in piece.spells)); length = piece.length }

-- the bounds in a `Bounds`
abbrev pub bounds_in_code : Bounds → figure.Bounds
bounds_in_code saturated_number = bounds saturated_number.min saturated_number.max

-- the bounds that the count at the start of the bytes denotes
abbrev pub count_spelled : List ℕ → figure.Bounds
count_spelled rest = bounds_spelled (numerals_in (spells_of (count rest)))

-- those bounds, if they are in range
abbrev pub count_in_range : List ℕ → Option figure.Bounds
count_in_range rest = if bounds_in_range (count_spelled rest) then Some (count_spelled rest) else None
