-- The metagrammar's rules of names, characters, literals and classes agree with their prefix matchers.
use Rattle.std.proofs.Common.{ℕ, true, List, [], ◌∷◌, refl, codes, lit<}
use Rattle.peg_bytes.specs.Extent.{Extent, between}
use Rattle.peg_semantics.specs.Form.{Name, Class}
use Rattle.peg_metagrammar.specs.Figure.{ident_start_body, ident_cont_body, char_body, range_body, hexadecimal_class, number_body}
use Rattle.peg_metagrammar.specs.SimpleEscapes.{is_simple_escape}
use Rattle.peg_metagrammar.specs.FigureRules.{ident_start_rule, ident_cont_rule, range_rule, char_rule, number_rule}
use Rattle.peg_lexer.specs.Lexical.{begins_name, is_digit, in_name, identifier, is_leading_octal, is_hexadecimal, backslash, octal_digit, hex_digit, hexadecimal_digits, three_digits, two_digits, char, is_quote, quoted_char, quoted, literal, range_matcher, classed_range, class, digit, number, count}
use Rattle.peg_lexer.specs.Matchers.{satisfy, literal_bytes, seq_matcher, not_followed}
use Rattle.peg_metagrammar.specs.Ranges as ranges
use Rattle.peg_metagrammar.specs.Ranges.{class_of}
use Rattle.peg_metagrammar.specs.Denotation.{Byte, Bytes, Numeral, decimal, is_octal, byte_spelled, range_spelled, bytes_in}
use Rattle.peg_lexer.proofs.Classes.{has_range, has_name_start, has_hexadecimal, has_sign}
use Rattle.peg_metagrammar.proofs.FigureNames.{ident_start-meaning_of, ident_cont-meaning_of, char-meaning_of, range-meaning_of, number-meaning_of}
use Rattle.peg_lexer.proofs.PieceSizes.{Fits, HasBytes, is_long, fits-literal_bytes, has-literal_bytes, fits-one, has-one, fits-seq_matcher, has-first, has-next, fits-or_matcher, has-or_matcher, fits-not_followed, fits-optional_matcher, fits-star, fits-noded, has-noded}
use Rattle.peg_lexer.proofs.Takes.{Takes, IsLong, Nodes, takes-literal_bytes, takes-class, takes-any, takes-then, takes-last, takes-seq, takes-only, takes-or, takes-choice, takes-not, takes-optional, takes-plus, takes-name, takes-node}

-- ---- names

ident_start-nodes : Nodes ident_start_rule (λ text inner. inner)
ident_start-nodes = record { spells = λ file before start end last inner. refl; no_spacing = refl; no_primary = refl; no_count = refl }

pub takes-ident_start : (file : List ℕ) (start end : ℕ)
    → Takes file (Name (codes "IdentStart") (between start end)) (satisfy begins_name)
unfolding ident_start_body
takes-ident_start file start end =
    takes-name (between start end) _ ident_start-meaning_of.1 ident_start-nodes
    (takes-class file _ _ begins_name has_name_start)

ident_cont-nodes : Nodes ident_cont_rule (λ text inner. inner)
ident_cont-nodes = record { spells = λ file before start end last inner. refl; no_spacing = refl; no_primary = refl; no_count = refl }

pub takes-ident_cont : (file : List ℕ) (start end : ℕ) → Takes file
    (Name (codes "IdentCont") (between start end)) in_name
unfolding ident_cont_body
takes-ident_cont file start end =
    takes-name (between start end) _ ident_cont-meaning_of.1 ident_cont-nodes
    (takes-choice _ (takes-or (takes-ident_start file _ _) (takes-only
    (takes-class file _ _ is_digit (has_range 48 57 (lit< tt))))))

pub in_name-long : IsLong in_name
in_name-long =
    is_long (has-or_matcher (has-one begins_name) (has-one is_digit))
    (fits-or_matcher (fits-one begins_name) (fits-one is_digit))

pub identifier-fits : Fits identifier
unfolding identifier
identifier-fits = fits-seq_matcher (fits-one begins_name) (fits-star in_name-long)

-- ---- characters

char-nodes : Nodes char_rule (λ text inner. Byte (byte_spelled text) ∷ [])
char-nodes = record { spells = λ file before start end last inner. refl; no_spacing = refl; no_primary = refl; no_count = refl }

-- an octal digit
takes-octal : (file : List ℕ) (span : Extent) → Takes file (Class (class_of (ranges.range 48 55 ∷ [])) span) octal_digit
takes-octal file span = takes-class file _ span is_octal (has_range 48 55 (lit< tt))

-- a hexadecimal digit
takes-hexadecimal : (file : List ℕ) (line start end : ℕ) → Takes file (hexadecimal_class line start end) hex_digit
takes-hexadecimal file line start end = takes-class file _ _ is_hexadecimal has_hexadecimal

pub takes-char : (file : List ℕ) (start end : ℕ) → Takes file (Name (codes "Char") (between start end)) char
unfolding char char_body
takes-char file start end =
    takes-node (between start end) _ char-meaning_of.1 char-nodes
    (takes-choice _
    (takes-or (takes-seq _ (takes-then (takes-literal_bytes file _ _) (takes-then (takes-hexadecimal file _ _ _)
    (takes-last (takes-hexadecimal file _ _ _)))))
    (takes-or (takes-seq _ (takes-then (takes-literal_bytes file _ _) (takes-last (takes-class file _ _ is_simple_escape has_sign))))
    (takes-or (takes-seq _ (takes-then (takes-literal_bytes file _ _) (takes-then
    (takes-class file _ _ is_leading_octal (has_range 48 50 (lit< tt)))
    (takes-then (takes-octal file _) (takes-last (takes-octal file _))))))
    (takes-or (takes-seq _ (takes-then (takes-literal_bytes file _ _) (takes-then (takes-octal file _)
    (takes-last (takes-optional _ (takes-octal file _))))))
    (takes-only (takes-seq _ (takes-then (takes-not _ (takes-literal_bytes file _ _)) (takes-last (takes-any file _))))))))))

octal-fits : Fits octal_digit
octal-fits = fits-one is_octal

hexadecimal-fits : Fits hexadecimal_digits
hexadecimal-fits = fits-seq_matcher (fits-one is_hexadecimal) (fits-one is_hexadecimal)

backslash-fits : Fits backslash
backslash-fits = fits-literal_bytes (codes "\\")

backslash-some : HasBytes backslash
backslash-some = has-literal_bytes (codes "\\") (lit< tt)

pub char-fits : Fits char
unfolding char
char-fits =
    fits-noded (λ text inner. Byte (byte_spelled text) ∷ [])
    (fits-or_matcher (fits-seq_matcher (fits-literal_bytes (codes "\\x")) hexadecimal-fits)
    (fits-or_matcher (fits-seq_matcher backslash-fits (fits-one is_simple_escape))
    (fits-or_matcher (fits-seq_matcher backslash-fits (fits-seq_matcher (fits-one is_leading_octal)
    (fits-seq_matcher octal-fits octal-fits)))
    (fits-or_matcher (fits-seq_matcher backslash-fits (fits-seq_matcher octal-fits (fits-optional_matcher octal-fits)))
    (fits-seq_matcher (fits-not_followed backslash) (fits-one (λ byte. true)))))))

pub char-some : HasBytes char
unfolding char
char-some =
    has-noded (λ text inner. Byte (byte_spelled text) ∷ [])
    (has-or_matcher (has-first hexadecimal_digits (has-literal_bytes (codes "\\x") (lit< tt)))
    (has-or_matcher (has-first (satisfy is_simple_escape) backslash-some)
    (has-or_matcher (has-first three_digits backslash-some)
    (has-or_matcher (has-first two_digits backslash-some)
    (has-next (not_followed backslash) (has-one (λ byte. true)))))))

-- ---- literals

pub quoted_char-long : (quote : ℕ) → IsLong (quoted_char quote)
quoted_char-long quote =
    is_long (has-next (not_followed (satisfy (is_quote quote))) char-some)
    (fits-seq_matcher (fits-not_followed (satisfy (is_quote quote))) char-fits)

pub quoted-fits : (quote : ℕ) → Fits (quoted quote)
unfolding quoted
quoted-fits quote =
    fits-seq_matcher (fits-one (is_quote quote)) (fits-seq_matcher (fits-star (quoted_char-long quote))
    (fits-one (is_quote quote)))

pub literal-fits : Fits literal
unfolding literal
literal-fits = fits-or_matcher (quoted-fits 39) (quoted-fits 34)

-- ---- classes

range-nodes : Nodes range_rule (λ text inner. Bytes (range_spelled (bytes_in inner)) ∷ [])
range-nodes = record { spells = λ file before start end last inner. refl; no_spacing = refl; no_primary = refl; no_count = refl }

pub takes-range : (file : List ℕ) (start end : ℕ) → Takes file (Name (codes "Range") (between start end)) range_matcher
unfolding range_matcher range_body
takes-range file start end =
    takes-node (between start end) _ range-meaning_of.1 range-nodes
    (takes-choice _
    (takes-or (takes-seq _ (takes-then (takes-char file _ _) (takes-then (takes-literal_bytes file _ _)
    (takes-last (takes-char file _ _)))))
    (takes-only (takes-char file _ _))))

pub range-fits : Fits range_matcher
unfolding range_matcher
range-fits =
    fits-noded (λ text inner. Bytes (range_spelled (bytes_in inner)) ∷ [])
    (fits-or_matcher (fits-seq_matcher char-fits (fits-seq_matcher (fits-literal_bytes (codes "-")) char-fits)) char-fits)

pub range-some : HasBytes range_matcher
unfolding range_matcher
range-some =
    has-noded (λ text inner. Bytes (range_spelled (bytes_in inner)) ∷ [])
    (has-or_matcher (has-first (seq_matcher (literal_bytes (codes "-")) char) char-some) char-some)

pub classed_range-long : IsLong classed_range
classed_range-long =
    is_long (has-next (not_followed (literal_bytes (codes "]"))) range-some)
    (fits-seq_matcher (fits-not_followed (literal_bytes (codes "]"))) range-fits)

pub class-fits : Fits class
unfolding class
class-fits =
    fits-seq_matcher (fits-literal_bytes (codes "[")) (fits-seq_matcher (fits-star classed_range-long) (fits-literal_bytes (codes "]")))

-- ---- counts

number-nodes : Nodes number_rule (λ text inner. Numeral (decimal text) ∷ [])
number-nodes = record { spells = λ file before start end last inner. refl; no_spacing = refl; no_primary = refl; no_count = refl }

pub digit-long : IsLong digit
digit-long = is_long (has-one is_digit) (fits-one is_digit)

pub takes-number : (file : List ℕ) (start end : ℕ) → Takes file (Name (codes "Number") (between start end)) number
unfolding number number_body
takes-number file start end =
    takes-node (between start end) _ number-meaning_of.1 number-nodes
    (takes-plus _ (takes-class file _ _ is_digit (has_range 48 57 (lit< tt))) digit-long)

number-fits : Fits number
unfolding number
number-fits =
    fits-noded (λ text inner. Numeral (decimal text) ∷ []) (fits-seq_matcher (fits-one is_digit) (fits-star digit-long))

pub count-fits : Fits count
unfolding count
count-fits =
    fits-seq_matcher (fits-literal_bytes (codes "{")) (fits-seq_matcher number-fits
    (fits-seq_matcher (fits-optional_matcher (fits-seq_matcher (fits-literal_bytes (codes ",")) number-fits)) (fits-literal_bytes (codes "}"))))
