-- The metagrammar: the notation of grammar files as a grammar. It is Ford's figure 1 (Ford 2004, section 2.1) with two
-- extensions. Rule Suffix has a last alternative for counts, which has the two rules COUNT and Number. Rule Char has a
-- first alternative for a byte written as two hexadecimal digits. The spans are those of the metagrammar's text.
use Rattle.std.specs.Prelude.{ℕ, ◌+◌, List, [], ◌∷◌, length, codes}
use Rattle.peg_bytes.specs.Extent.{Extent, between}
use Rattle.peg_semantics.specs.Form.{Form, Literal, Class, Any, Name, Seq, Choice, Optional, Star, Plus, Not, forms}
use Rattle.peg_semantics.specs.Rules.{Rule}
use Rattle.peg_metagrammar.specs.FigureText.{line_start}
use Rattle.peg_metagrammar.specs.FigureRules.{grammar_rule, definition_rule, expression_rule, sequence_rule}
use Rattle.peg_metagrammar.specs.FigureRules.{prefix_rule, suffix_rule, primary_rule, identifier_rule}
use Rattle.peg_metagrammar.specs.FigureRules.{ident_start_rule, ident_cont_rule, literal_rule, class_rule, range_rule}
use Rattle.peg_metagrammar.specs.FigureRules.{char_rule, leftarrow_rule, slash_rule, and_sign_rule, not_sign_rule}
use Rattle.peg_metagrammar.specs.FigureRules.{question_rule, star_rule, plus_rule, count_rule, number_rule}
use Rattle.peg_metagrammar.specs.FigureRules.{open_sign_rule, close_rule, dot_rule, spacing_rule, comment_rule}
use Rattle.peg_metagrammar.specs.FigureRules.{space_rule, end_of_line_rule, end_of_file_rule}
use Rattle.peg_metagrammar.specs.Ranges.{range, class_of}
use Rattle.peg_metagrammar.specs.SimpleEscapes.{simple_escapes, escaped_ranges}

-- a span on a line that starts at an offset, by offsets on that line
abbrev pub line_span : (line start end : ℕ) → Extent
line_span line start end = between (line + start) (line + end)

-- a span of the metagrammar's text, by the rule on whose line it is
abbrev pub on_line : (rule start end : ℕ) → Extent
on_line rule start end = line_span (line_start rule) start end

-- ---- the rules, each on a line that starts at a given offset

-- Grammar <- Spacing Definition+ EndOfFile
abbrev pub grammar_on : (line : ℕ) → Form
grammar_on line = Seq (forms (Name (codes "Spacing") (line_span line 11 18) ∷
    Plus (Name (codes "Definition") (line_span line 19 29))
    (line_span line 19 30) ∷ Name (codes "EndOfFile") (line_span line 31 40) ∷ []))
    (line_span line 11 40)

unfoldable pub grammar_body : Form
grammar_body = grammar_on (line_start grammar_rule)

-- Definition <- Identifier LEFTARROW Expression
abbrev pub definition_on : (line : ℕ) → Form
definition_on line = Seq (forms (Name (codes "Identifier") (line_span line 14 24) ∷
    Name (codes "LEFTARROW") (line_span line 25 34) ∷
    Name (codes "Expression") (line_span line 35 45) ∷ [])) (line_span line 14 45)

unfoldable pub definition_body : Form
definition_body = definition_on (line_start definition_rule)

-- (SLASH Sequence)*
abbrev pub expression_rest : (line : ℕ) → Form
expression_rest line = Star (Seq (forms (Name (codes "SLASH") (line_span line 24 29) ∷
    Name (codes "Sequence") (line_span line 30 38) ∷ [])) (line_span line 24 38)) (line_span line 23 40)

-- Expression <- Sequence (SLASH Sequence)*
abbrev pub expression_on : (line : ℕ) → Form
expression_on line = Seq (forms (Name (codes "Sequence") (line_span line 14 22) ∷ expression_rest line ∷ []))
    (line_span line 14 40)

unfoldable pub expression_body : Form
expression_body = expression_on (line_start expression_rule)

-- Sequence <- Prefix*
abbrev pub sequence_on : (line : ℕ) → Form
sequence_on line = Star (Name (codes "Prefix") (line_span line 12 18)) (line_span line 12 19)

unfoldable pub sequence_body : Form
sequence_body = sequence_on (line_start sequence_rule)

-- (AND / NOT)?
abbrev pub prefix_sign : (line : ℕ) → Form
prefix_sign line = Optional (Choice (Name (codes "AND") (line_span line 11 14))
    (forms (Name (codes "NOT") (line_span line 17 20) ∷ [])) (line_span line 11 20))
    (line_span line 10 22)

-- Prefix <- (AND / NOT)? Suffix
abbrev pub prefix_on : (line : ℕ) → Form
prefix_on line = Seq (forms (prefix_sign line ∷ Name (codes "Suffix") (line_span line 23 29) ∷ []))
    (line_span line 10 29)

unfoldable pub prefix_body : Form
prefix_body = prefix_on (line_start prefix_rule)

-- (QUESTION / STAR / PLUS / COUNT)?
abbrev pub suffix_sign : (line : ℕ) → Form
suffix_sign line = Optional (Choice (Name (codes "QUESTION") (line_span line 19 27))
    (forms (Name (codes "STAR") (line_span line 30 34) ∷ Name (codes "PLUS") (line_span line 37 41) ∷
    Name (codes "COUNT") (line_span line 44 49) ∷ [])) (line_span line 19 49)) (line_span line 18 51)

-- Suffix <- Primary (QUESTION / STAR / PLUS / COUNT)?
abbrev pub suffix_on : (line : ℕ) → Form
suffix_on line = Seq (forms (Name (codes "Primary") (line_span line 10 17) ∷ suffix_sign line ∷ []))
    (line_span line 10 51)

unfoldable pub suffix_body : Form
suffix_body = suffix_on (line_start suffix_rule)

-- Identifier !LEFTARROW
abbrev pub primary_name : (line : ℕ) → Form
primary_name line = Seq (forms (Name (codes "Identifier") (line_span line 11 21) ∷
    Not (Name (codes "LEFTARROW") (line_span line 23 32)) (line_span line 22 32) ∷ []))
    (line_span line 11 32)

-- OPEN Expression CLOSE
abbrev pub primary_parentheses : (line : ℕ) → Form
primary_parentheses line = Seq (forms (Name (codes "OPEN") (line_span line 35 39) ∷
    Name (codes "Expression") (line_span line 40 50) ∷
    Name (codes "CLOSE") (line_span line 51 56) ∷ [])) (line_span line 35 56)

-- Primary <- Identifier !LEFTARROW / OPEN Expression CLOSE / Literal / Class / DOT
abbrev pub primary_on : (line : ℕ) → Form
primary_on line = Choice (primary_name line) (forms (primary_parentheses line ∷ Name (codes "Literal") (line_span line 59 66) ∷
    Name (codes "Class") (line_span line 69 74) ∷ Name (codes "DOT") (line_span line 77 80) ∷
    [])) (line_span line 11 80)

unfoldable pub primary_body : Form
primary_body = primary_on (line_start primary_rule)

-- Identifier <- IdentStart IdentCont* Spacing
abbrev pub identifier_on : (line : ℕ) → Form
identifier_on line = Seq (forms (Name (codes "IdentStart") (line_span line 14 24) ∷
    Star (Name (codes "IdentCont") (line_span line 25 34)) (line_span line 25 35) ∷
    Name (codes "Spacing") (line_span line 36 43) ∷
    [])) (line_span line 14 43)

unfoldable pub identifier_body : Form
identifier_body = identifier_on (line_start identifier_rule)

-- IdentStart <- [a-zA-Z_]
abbrev pub ident_start_on : (line : ℕ) → Form
ident_start_on line = Class (class_of (range 97 122 ∷ range 65 90 ∷ range 95 95 ∷ [])) (line_span line 14 23)

unfoldable pub ident_start_body : Form
ident_start_body = ident_start_on (line_start ident_start_rule)

-- IdentCont <- IdentStart / [0-9]
abbrev pub ident_cont_on : (line : ℕ) → Form
ident_cont_on line = Choice (Name (codes "IdentStart") (line_span line 13 23))
    (forms (Class (class_of (range 48 57 ∷ [])) (line_span line 26 31) ∷ [])) (line_span line 13 31)

unfoldable pub ident_cont_body : Form
ident_cont_body = ident_cont_on (line_start ident_cont_rule)

-- (!['] Char)*
abbrev pub single_chars : (line : ℕ) → Form
single_chars line = Star (Seq (forms (Not (Class (class_of (range 39 39 ∷ [])) (line_span line 17 20))
    (line_span line 16 20) ∷ Name (codes "Char") (line_span line 21 25) ∷ [])) (line_span line 16 25))
    (line_span line 15 27)

-- ['] (!['] Char)* ['] Spacing
abbrev pub literal_single : (line : ℕ) → Form
literal_single line = Seq (forms (Class (class_of (range 39 39 ∷ [])) (line_span line 11 14) ∷ single_chars line ∷
    Class (class_of (range 39 39 ∷ [])) (line_span line 28 31) ∷ Name (codes "Spacing") (line_span line 32 39) ∷ []))
    (line_span line 11 39)

-- (!["] Char)*
abbrev pub double_chars : (line : ℕ) → Form
double_chars line = Star (Seq (forms (Not (Class (class_of (range 34 34 ∷ [])) (line_span line 48 51))
    (line_span line 47 51) ∷ Name (codes "Char") (line_span line 52 56) ∷ [])) (line_span line 47 56))
    (line_span line 46 58)

-- ["] (!["] Char)* ["] Spacing
abbrev pub literal_double : (line : ℕ) → Form
literal_double line = Seq (forms (Class (class_of (range 34 34 ∷ [])) (line_span line 42 45) ∷ double_chars line ∷
    Class (class_of (range 34 34 ∷ [])) (line_span line 59 62) ∷ Name (codes "Spacing") (line_span line 63 70) ∷ []))
    (line_span line 42 70)

-- Literal <- ['] (!['] Char)* ['] Spacing / ["] (!["] Char)* ["] Spacing
abbrev pub literal_on : (line : ℕ) → Form
literal_on line = Choice (literal_single line) (forms (literal_double line ∷ [])) (line_span line 11 70)

unfoldable pub literal_body : Form
literal_body = literal_on (line_start literal_rule)

-- (!']' Range)*
abbrev pub class_ranges : (line : ℕ) → Form
class_ranges line = Star (Seq (forms (Not (Literal (codes "]") (line_span line 15 18)) (line_span line 14 18) ∷
    Name (codes "Range") (line_span line 19 24) ∷ [])) (line_span line 14 24)) (line_span line 13 26)

-- Class <- '[' (!']' Range)* ']' Spacing
abbrev pub class_on : (line : ℕ) → Form
class_on line = Seq (forms (Literal (codes "[") (line_span line 9 12) ∷ class_ranges line ∷
    Literal (codes "]") (line_span line 27 30) ∷
    Name (codes "Spacing") (line_span line 31 38) ∷ [])) (line_span line 9 38)

unfoldable pub class_body : Form
class_body = class_on (line_start class_rule)

-- Char '-' Char
abbrev pub range_ends : (line : ℕ) → Form
range_ends line = Seq (forms (Name (codes "Char") (line_span line 9 13) ∷ Literal (codes "-") (line_span line 14 17) ∷
    Name (codes "Char") (line_span line 18 22) ∷ [])) (line_span line 9 22)

-- Range <- Char '-' Char / Char
abbrev pub range_on : (line : ℕ) → Form
range_on line = Choice (range_ends line)
    (forms (Name (codes "Char") (line_span line 25 29) ∷
    [])) (line_span line 9 29)

unfoldable pub range_body : Form
range_body = range_on (line_start range_rule)

-- [0-9a-fA-F], with a given span on its line
abbrev pub hexadecimal_class : (line start end : ℕ) → Form
hexadecimal_class line start end = Class (class_of (range 48 57 ∷ range 97 102 ∷ range 65 70 ∷ []))
    (line_span line start end)

-- '\\x' [0-9a-fA-F][0-9a-fA-F]
abbrev pub char_hexadecimal : (line : ℕ) → Form
char_hexadecimal line = Seq (forms (Literal (codes "\\x") (line_span line 8 13) ∷ hexadecimal_class line 14 25 ∷
    hexadecimal_class line 25 36 ∷ [])) (line_span line 8 36)

-- '\\' [nrt'"\[\]\\]
abbrev pub char_sign : (line : ℕ) → Form
char_sign line = Seq (forms (Literal (codes "\\") (line_span line 39 43) ∷
    Class (class_of (escaped_ranges simple_escapes)) (line_span line 44 57) ∷ [])) (line_span line 39 57)

-- '\\' [0-2][0-7][0-7]
abbrev pub char_three_digits : (line : ℕ) → Form
char_three_digits line = Seq (forms (Literal (codes "\\") (line_span line 60 64) ∷
    Class (class_of (range 48 50 ∷ [])) (line_span line 65 70) ∷ Class (class_of (range 48 55 ∷ []))
    (line_span line 70 75) ∷
    Class (class_of (range 48 55 ∷ [])) (line_span line 75 80) ∷ [])) (line_span line 60 80)

-- '\\' [0-7][0-7]?
abbrev pub char_two_digits : (line : ℕ) → Form
char_two_digits line = Seq (forms (Literal (codes "\\") (line_span line 83 87) ∷
    Class (class_of (range 48 55 ∷ [])) (line_span line 88 93) ∷
    Optional (Class (class_of (range 48 55 ∷ [])) (line_span line 93 98)) (line_span line 93 99) ∷
    [])) (line_span line 83 99)

-- !'\\' .
abbrev pub char_alone : (line : ℕ) → Form
char_alone line =
    Seq (forms (Not (Literal (codes "\\") (line_span line 103 107)) (line_span line 102 107) ∷ Any
    (line_span line 108 109) ∷ []))
    (line_span line 102 109)

-- Char <- '\\x' [0-9a-fA-F][0-9a-fA-F] / '\\' [nrt'"\[\]\\] / '\\' [0-2][0-7][0-7] / '\\' [0-7][0-7]? / !'\\' .
abbrev pub char_on : (line : ℕ) → Form
char_on line = Choice (char_hexadecimal line)
    (forms (char_sign line ∷ char_three_digits line ∷ char_two_digits line ∷ char_alone line ∷ []))
    (line_span line 8 109)

unfoldable pub char_body : Form
char_body = char_on (line_start char_rule)

-- an operator token, and one byte after it a call of Spacing
abbrev pub sign_on : (line : ℕ) → List ℕ → (start end : ℕ) → Form
sign_on line text start end = Seq (forms (Literal text (line_span line start end) ∷
    Name (codes "Spacing") (line_span line (end + 1) (end + 8)) ∷ [])) (line_span line start (end + 8))

-- LEFTARROW <- '<-' Spacing
abbrev pub leftarrow_body : Form
leftarrow_body = sign_on (line_start leftarrow_rule) (codes "<-") 13 17

-- SLASH <- '/' Spacing
abbrev pub slash_body : Form
slash_body = sign_on (line_start slash_rule) (codes "/") 9 12

-- AND <- '&' Spacing
abbrev pub and_sign_body : Form
and_sign_body = sign_on (line_start and_sign_rule) (codes "&") 7 10

-- NOT <- '!' Spacing
abbrev pub not_sign_body : Form
not_sign_body = sign_on (line_start not_sign_rule) (codes "!") 7 10

-- QUESTION <- '?' Spacing
abbrev pub question_body : Form
question_body = sign_on (line_start question_rule) (codes "?") 12 15

-- STAR <- '*' Spacing
abbrev pub star_body : Form
star_body = sign_on (line_start star_rule) (codes "*") 8 11

-- PLUS <- '+' Spacing
abbrev pub plus_body : Form
plus_body = sign_on (line_start plus_rule) (codes "+") 8 11

-- (',' Number)?
abbrev pub count_maximum : (line : ℕ) → Form
count_maximum line = Optional (Seq (forms (Literal (codes ",") (line_span line 21 24) ∷
    Name (codes "Number") (line_span line 25 31) ∷ [])) (line_span line 21 31)) (line_span line 20 33)

-- COUNT <- '{' Number (',' Number)? '}' Spacing
abbrev pub count_on : (line : ℕ) → Form
count_on line = Seq (forms (Literal (codes "{") (line_span line 9 12) ∷ Name (codes "Number")
    (line_span line 13 19) ∷ count_maximum line ∷ Literal (codes "}") (line_span line 34 37) ∷
    Name (codes "Spacing") (line_span line 38 45) ∷ [])) (line_span line 9 45)

unfoldable pub count_body : Form
count_body = count_on (line_start count_rule)

-- Number <- [0-9]+
abbrev pub number_on : (line : ℕ) → Form
number_on line = Plus (Class (class_of (range 48 57 ∷ [])) (line_span line 10 15)) (line_span line 10 16)

unfoldable pub number_body : Form
number_body = number_on (line_start number_rule)

-- OPEN <- '(' Spacing
abbrev pub open_sign_body : Form
open_sign_body = sign_on (line_start open_sign_rule) (codes "(") 8 11

-- CLOSE <- ')' Spacing
abbrev pub close_body : Form
close_body = sign_on (line_start close_rule) (codes ")") 9 12

-- DOT <- '.' Spacing
abbrev pub dot_body : Form
dot_body = sign_on (line_start dot_rule) (codes ".") 7 10

-- Spacing <- (Space / Comment)*
abbrev pub spacing_on : (line : ℕ) → Form
spacing_on line = Star (Choice (Name (codes "Space") (line_span line 12 17))
    (forms (Name (codes "Comment") (line_span line 20 27) ∷
    [])) (line_span line 12 27)) (line_span line 11 29)

unfoldable pub spacing_body : Form
spacing_body = spacing_on (line_start spacing_rule)

-- (!EndOfLine .)*
abbrev pub comment_bytes : (line : ℕ) → Form
comment_bytes line = Star (Seq (forms (Not (Name (codes "EndOfLine") (line_span line 17 26)) (line_span line 16 26) ∷
    Any (line_span line 27 28) ∷ [])) (line_span line 16 28)) (line_span line 15 30)

-- Comment <- '#' (!EndOfLine .)* EndOfLine
abbrev pub comment_on : (line : ℕ) → Form
comment_on line = Seq (forms (Literal (codes "#") (line_span line 11 14) ∷ comment_bytes line ∷ Name (codes "EndOfLine")
    (line_span line 31 40) ∷ [])) (line_span line 11 40)

unfoldable pub comment_body : Form
comment_body = comment_on (line_start comment_rule)

-- Space <- ' ' / '\t' / EndOfLine
abbrev pub space_on : (line : ℕ) → Form
space_on line = Choice (Literal (codes " ") (line_span line 9 12))
    (forms (Literal (codes "\t") (line_span line 15 19) ∷ Name (codes "EndOfLine") (line_span line 22 31) ∷
    [])) (line_span line 9 31)

unfoldable pub space_body : Form
space_body = space_on (line_start space_rule)

-- EndOfLine <- '\r\n' / '\n' / '\r'
abbrev pub end_of_line_on : (line : ℕ) → Form
end_of_line_on line = Choice (Literal (codes "\r\n") (line_span line 13 19))
    (forms (Literal (codes "\n") (line_span line 22 26) ∷ Literal (codes "\r")
    (line_span line 29 33) ∷ [])) (line_span line 13 33)

unfoldable pub end_of_line_body : Form
end_of_line_body = end_of_line_on (line_start end_of_line_rule)

-- EndOfFile <- !.
abbrev pub end_of_file_on : (line : ℕ) → Form
end_of_file_on line = Not (Any (line_span line 14 15)) (line_span line 13 15)

unfoldable pub end_of_file_body : Form
end_of_file_body = end_of_file_on (line_start end_of_file_rule)

-- ---- the metagrammar

-- a rule, whose name starts its line
abbrev pub named_rule : (rule : ℕ) → List ℕ → Form → Rule
named_rule rule name body = record { name = name; span = on_line rule 0 (length name); body = body }

-- the 31 rules of the metagrammar, in order
unfoldable pub figure : List Rule
figure =
    named_rule grammar_rule (codes "Grammar") grammar_body
    ∷ named_rule definition_rule (codes "Definition") definition_body
    ∷ named_rule expression_rule (codes "Expression") expression_body
    ∷ named_rule sequence_rule (codes "Sequence") sequence_body
    ∷ named_rule prefix_rule (codes "Prefix") prefix_body
    ∷ named_rule suffix_rule (codes "Suffix") suffix_body
    ∷ named_rule primary_rule (codes "Primary") primary_body
    ∷ named_rule identifier_rule (codes "Identifier") identifier_body
    ∷ named_rule ident_start_rule (codes "IdentStart") ident_start_body
    ∷ named_rule ident_cont_rule (codes "IdentCont") ident_cont_body
    ∷ named_rule literal_rule (codes "Literal") literal_body
    ∷ named_rule class_rule (codes "Class") class_body
    ∷ named_rule range_rule (codes "Range") range_body
    ∷ named_rule char_rule (codes "Char") char_body
    ∷ named_rule leftarrow_rule (codes "LEFTARROW") leftarrow_body
    ∷ named_rule slash_rule (codes "SLASH") slash_body
    ∷ named_rule and_sign_rule (codes "AND") and_sign_body
    ∷ named_rule not_sign_rule (codes "NOT") not_sign_body
    ∷ named_rule question_rule (codes "QUESTION") question_body
    ∷ named_rule star_rule (codes "STAR") star_body
    ∷ named_rule plus_rule (codes "PLUS") plus_body
    ∷ named_rule count_rule (codes "COUNT") count_body
    ∷ named_rule number_rule (codes "Number") number_body
    ∷ named_rule open_sign_rule (codes "OPEN") open_sign_body
    ∷ named_rule close_rule (codes "CLOSE") close_body
    ∷ named_rule dot_rule (codes "DOT") dot_body
    ∷ named_rule spacing_rule (codes "Spacing") spacing_body
    ∷ named_rule comment_rule (codes "Comment") comment_body
    ∷ named_rule space_rule (codes "Space") space_body
    ∷ named_rule end_of_line_rule (codes "EndOfLine") end_of_line_body
    ∷ named_rule end_of_file_rule (codes "EndOfFile") end_of_file_body
    ∷ []
