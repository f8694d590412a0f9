-- Describes code: the metagrammar's rules below Primary as prefix matchers (Ford 2004, section 2.1).
use Rattle.std.specs.Prelude.{ℕ, Bool, true, ◌==◌, ◌&&◌, ◌||◌, nat_le, List, [], ◌∷◌, take, codes, Option, None, Some}
use Rattle.std.specs.Prelude.{option_map, option_and_then, if◌then◌else◌}
use Rattle.peg_lexer.specs.Matchers.{PrefixMatch, Matcher, literal_bytes, satisfy, seq_matcher, or_matcher, not_followed, optional_matcher, many, star}
use Rattle.peg_metagrammar.specs.Denotation.{Byte, Bytes, Numeral, decimal, is_octal, byte_spelled, range_spelled, bytes_in}
use Rattle.peg_metagrammar.specs.SimpleEscapes.{is_simple_escape}
use Rattle.peg_lexer.specs.declared.token.TokenKind.{TokenKind}
use Rattle.peg_lexer.specs.declared.token.TokenKind.TheVariants.{Ident, Literal, Class, Arrow, Slash, And, Not}
use Rattle.peg_lexer.specs.declared.token.TokenKind.TheVariants.{Question, Star, Plus, Count, Open, Close, Dot}

-- ---- spacing

unfoldable pub end_of_line : Matcher
end_of_line = or_matcher (literal_bytes (codes "\r\n")) (or_matcher (literal_bytes (codes "\n")) (literal_bytes (codes "\r")))

unfoldable pub space : Matcher
space = or_matcher (literal_bytes (codes " ")) (or_matcher (literal_bytes (codes "\t")) end_of_line)

-- one byte of a comment
abbrev pub in_comment : Matcher
in_comment = seq_matcher (not_followed end_of_line) (satisfy (λ byte. true))

unfoldable pub comment : Matcher
comment = seq_matcher (literal_bytes (codes "#")) (seq_matcher (star in_comment) end_of_line)

abbrev pub space_or_comment : Matcher
space_or_comment = or_matcher space comment

unfoldable pub spacing : List ℕ → PrefixMatch
spacing rest = many space_or_comment rest

-- ---- names

abbrev pub begins_name : ℕ → Bool
begins_name byte = (nat_le 97 byte && nat_le byte 122) || ((nat_le 65 byte && nat_le byte 90) || byte == 95)

abbrev pub is_digit : ℕ → Bool
is_digit byte = nat_le 48 byte && nat_le byte 57

abbrev pub in_name : Matcher
in_name = or_matcher (satisfy begins_name) (satisfy is_digit)

unfoldable pub identifier : Matcher
identifier = seq_matcher (satisfy begins_name) (star in_name)

-- ---- characters

abbrev pub is_leading_octal : ℕ → Bool
is_leading_octal byte = nat_le 48 byte && nat_le byte 50

-- whether a byte is a hexadecimal digit, upper or lower case
abbrev pub is_hexadecimal : ℕ → Bool
is_hexadecimal byte =
    (nat_le 48 byte && nat_le byte 57) || ((nat_le 97 byte && nat_le byte 102) || (nat_le 65 byte && nat_le byte 70))

abbrev pub backslash : Matcher
backslash = literal_bytes (codes "\\")

abbrev pub octal_digit : Matcher
octal_digit = satisfy is_octal

abbrev pub hex_digit : Matcher
hex_digit = satisfy is_hexadecimal

-- two hexadecimal digits
abbrev pub hexadecimal_digits : Matcher
hexadecimal_digits = seq_matcher hex_digit hex_digit

-- three octal digits, the first at most 2; and one or two octal digits
abbrev pub three_digits : Matcher
three_digits = seq_matcher (satisfy is_leading_octal) (seq_matcher octal_digit octal_digit)

abbrev pub two_digits : Matcher
two_digits = seq_matcher octal_digit (optional_matcher octal_digit)

-- the escape after a backslash
abbrev pub escape : Matcher
escape =
    or_matcher (seq_matcher (literal_bytes (codes "x")) hexadecimal_digits)
    (or_matcher (satisfy is_simple_escape) (or_matcher three_digits two_digits))

abbrev pub char_text : Matcher
char_text =
    or_matcher (seq_matcher (literal_bytes (codes "\\x")) hexadecimal_digits)
    (or_matcher (seq_matcher backslash (satisfy is_simple_escape))
    (or_matcher (seq_matcher backslash three_digits)
    (or_matcher (seq_matcher backslash two_digits)
    (seq_matcher (not_followed backslash) (satisfy (λ byte. true))))))

unfoldable pub char : Matcher
char rest =
    option_map (λ (piece : PrefixMatch). record {
      spells = Byte (byte_spelled (take piece.length rest)) ∷
          [];
      length = piece.length;
    }) (char_text rest)

-- ---- literals

-- whether a byte is the given quote
abbrev pub is_quote : ℕ → ℕ → Bool
is_quote quote byte = byte == quote

-- a character other than the quote
abbrev pub quoted_char : ℕ → Matcher
quoted_char quote = seq_matcher (not_followed (satisfy (is_quote quote))) char

-- characters up to and including the closing quote
abbrev pub up_to_quote : ℕ → Matcher
up_to_quote quote = seq_matcher (star (quoted_char quote)) (satisfy (is_quote quote))

unfoldable pub quoted : ℕ → Matcher
quoted quote = seq_matcher (satisfy (is_quote quote)) (up_to_quote quote)

unfoldable pub literal : Matcher
literal = or_matcher (quoted 39) (quoted 34)

-- ---- classes

abbrev pub range_text : Matcher
range_text = or_matcher (seq_matcher char (seq_matcher (literal_bytes (codes "-")) char)) char

unfoldable pub range_matcher : Matcher
range_matcher rest =
    option_map (λ (piece : PrefixMatch). record {
      spells = Bytes (range_spelled (bytes_in piece.spells)) ∷
          [];
      length = piece.length;
    }) (range_text rest)

-- a range, if the closing bracket does not come next
abbrev pub classed_range : Matcher
classed_range = seq_matcher (not_followed (literal_bytes (codes "]"))) range_matcher

unfoldable pub class : Matcher
class = seq_matcher (literal_bytes (codes "[")) (seq_matcher (star classed_range) (literal_bytes (codes "]")))

-- ---- counts

abbrev pub digit : Matcher
digit = satisfy is_digit

-- one or more digits
abbrev pub digits : Matcher
digits = seq_matcher digit (star digit)

unfoldable pub number : Matcher
number rest =
    option_map (λ (piece : PrefixMatch). record {
      spells = Numeral (decimal (take piece.length rest)) ∷
          [];
      length = piece.length;
    }) (digits rest)

-- a comma and a number
abbrev pub second_number : Matcher
second_number = seq_matcher (literal_bytes (codes ",")) number

-- the rest of a count after its first number
abbrev pub after_number : Matcher
after_number = seq_matcher (optional_matcher second_number) (literal_bytes (codes "}"))

unfoldable pub count : Matcher
count = seq_matcher (literal_bytes (codes "{")) (seq_matcher number after_number)

-- ---- tokens

-- the text of a token, without the spacing after it
abbrev pub matcher_of : TokenKind → Matcher
matcher_of Ident = identifier
matcher_of Literal = literal
matcher_of Class = class
matcher_of Arrow = literal_bytes (codes "<-")
matcher_of Slash = literal_bytes (codes "/")
matcher_of And = literal_bytes (codes "&")
matcher_of Not = literal_bytes (codes "!")
matcher_of Question = literal_bytes (codes "?")
matcher_of Star = literal_bytes (codes "*")
matcher_of Plus = literal_bytes (codes "+")
matcher_of Count = count
matcher_of Open = literal_bytes (codes "(")
matcher_of Close = literal_bytes (codes ")")
matcher_of Dot = literal_bytes (codes ".")

-- the only kind of token that can begin with a byte
unfoldable pub kind_of : ℕ → Option TokenKind
kind_of byte =
    if begins_name byte then Some Ident
    else (if byte == 39 || byte == 34 then Some Literal
    else (if byte == 91 then Some Class
    else (if byte == 60 then Some Arrow
    else (if byte == 47 then Some Slash
    else (if byte == 38 then Some And
    else (if byte == 33 then Some Not
    else (if byte == 63 then Some Question
    else (if byte == 42 then Some Star
    else (if byte == 43 then Some Plus
    else (if byte == 123 then Some Count
    else (if byte == 40 then Some Open
    else (if byte == 41 then Some Close
    else (if byte == 46 then Some Dot
    else None)))))))))))))

-- the kind of a token, and its text
pub record ScannedToken : Type 0 where
  pub kind : TokenKind
  pub text : PrefixMatch

-- the token of a given kind at the start of the bytes
abbrev pub token_of : TokenKind → List ℕ → Option ScannedToken
token_of kind rest = option_map (λ text. record { kind = kind; text = text }) (matcher_of kind rest)

-- the token at the start of the bytes
abbrev pub token : List ℕ → Option ScannedToken
token [] = None
token (byte ∷ rest) = option_and_then (λ kind. token_of kind (byte ∷ rest)) (kind_of byte)
