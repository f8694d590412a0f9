-- A backslash and the escape after it are a character.
use Rattle.std.proofs.Common.{◌≡◌, ℕ, suc, ◌+◌, ◌≤◌, Bool, true, false, if◌then◌else◌, nat_eq, List, [], ◌∷◌, length, take, drop, get_or, codes}
use Rattle.std.proofs.Common.{Option, None, Some, option_map, option_and_then, refl, sym, ap, ◌∙◌, arith}
use Rattle.std.specs.List.{starts_with}
use Rattle.peg_lexer.specs.Lexical.{hexadecimal_digits, three_digits, two_digits, char}
use Rattle.peg_lexer.specs.LexicalCode.{escaped_char}
use Rattle.peg_lexer.specs.Matchers.{PrefixMatch, plain, concat_matches, satisfy, or_piece}
use Rattle.peg_metagrammar.specs.Denotation.{Byte, byte_spelled}
use Rattle.peg_metagrammar.specs.SimpleEscapes.{is_simple_escape}
use Rattle.peg_lexer.proofs.PieceLemmas.{from, from-drop}

-- the character that consists of a backslash and a match after it; and the character of a match
abbrev following_backslash : List ℕ → PrefixMatch → PrefixMatch
following_backslash rest piece =
    record { spells = Byte (byte_spelled (92 ∷ take piece.length rest)) ∷ []; length = 1 + piece.length }

abbrev character : List ℕ → PrefixMatch → PrefixMatch
character rest piece = record { spells = Byte (byte_spelled (take piece.length rest)) ∷ []; length = piece.length }

one_more : (rest : List ℕ) (piece more : PrefixMatch) → more.length ≡ 1 + piece.length
    → following_backslash rest piece ≡ character (92 ∷ rest) more
one_more rest piece more is =
    let size : more.length ≡ suc piece.length = is ∙ omega arith in
    ap (λ n. record { spells = Byte (byte_spelled (92 ∷ take piece.length rest)) ∷ []; length = n }) (sym is)
    ∙ ap (λ n. record { spells = Byte (byte_spelled (take n (92 ∷ rest))) ∷ []; length = more.length }) (sym size)

-- the escapes without hexadecimal digits
abbrev others : (sign three two : Option PrefixMatch) → Option PrefixMatch
others sign three two = or_piece (option_map (concat_matches (plain 1)) sign)
    (or_piece (option_map (concat_matches (plain 1)) three) (or_piece (option_map (concat_matches (plain 1)) two) None))

-- an escape is the rest of a character after its backslash
escape-following : (rest : List ℕ) → escaped_char rest ≡ char (92 ∷ rest)
unfolding char
escape-following [] = refl
escape-following (byte ∷ rest) =
    by (starts_with nat_eq (byte ∷ rest) (codes "x")) (satisfy is_simple_escape (byte ∷ rest)) (three_digits (byte ∷ rest))
    (two_digits (byte ∷ rest))
  where
    old : (sign three two : Option PrefixMatch)
        → option_map (following_backslash (byte ∷ rest)) (or_piece sign (or_piece three two))
        ≡ option_map (character (92 ∷ byte ∷ rest)) (others sign three two)
    old (Some piece) three two = ap Some (one_more (byte ∷ rest) piece (concat_matches (plain 1) piece) refl)
    old None (Some piece) two = ap Some (one_more (byte ∷ rest) piece (concat_matches (plain 1) piece) refl)
    old None None (Some piece) = ap Some (one_more (byte ∷ rest) piece (concat_matches (plain 1) piece) refl)
    old None None None = refl

    digits : (found sign three two : Option PrefixMatch)
        → option_map (following_backslash (byte ∷ rest)) (or_piece (option_map (concat_matches (plain 1)) found)
        (or_piece sign (or_piece three two)))
        ≡ option_map (character (92 ∷ byte ∷ rest)) (or_piece (option_map (concat_matches (plain 2)) found)
        (others sign three two))
    digits (Some piece) sign three two =
        ap Some (one_more (byte ∷ rest) (concat_matches (plain 1) piece) (concat_matches (plain 2) piece) (omega arith))
    digits None sign three two = old sign three two

    by : (t : Bool) (sign three two : Option PrefixMatch) → option_map (following_backslash (byte ∷ rest)) (or_piece
        (option_and_then (λ (x : PrefixMatch). option_map (concat_matches x) (hexadecimal_digits (drop x.length (byte ∷ rest))))
        (if t then Some (plain 1) else None)) (or_piece sign (or_piece three two)))
        ≡ option_map (character (92 ∷ byte ∷ rest)) (or_piece
        (option_and_then (λ (x : PrefixMatch). option_map (concat_matches x) (hexadecimal_digits (drop x.length (92 ∷ byte ∷ rest))))
        (if t then Some (plain 2) else None)) (others sign three two))
    by true sign three two = digits (hexadecimal_digits rest) sign three two
    by false sign three two = old sign three two

-- the same for the bytes that the code reads
pub escape-text : (rest : List ℕ) → 1 ≤ length rest → get_or rest 0 0 ≡ 92 → escaped_char (from 1 rest) ≡ char rest
escape-text [] long first = absurd (omega arith)
escape-text (byte ∷ rest) long first =
    ap escaped_char (from-drop 1 (byte ∷ rest))
    ∙ (escape-following rest ∙ ap (λ b. char (b ∷ rest)) (sym first))
