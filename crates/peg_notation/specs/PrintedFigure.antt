-- Ford's figure 1 as printed (Ford 2004, section 2.1): the metagrammar without counts, and without hexadecimal digits
-- in Char. Only the law that files of the printed notation keep their reading uses it.
use Rattle.std.specs.Prelude.{◌≡◌, ℕ, List, [], ◌∷◌, map, codes, bytes_eq, if◌then◌else◌}
use Rattle.peg_bytes.specs.Extent.{between}
use Rattle.peg_tree.specs.Trees.{Trees}
use Rattle.peg_semantics.specs.Form.{Form, Name, Choice, forms}
use Rattle.peg_semantics.specs.Record.{Record, Matched, IsRecord}
use Rattle.peg_semantics.specs.Rules.{Rule}
use Rattle.peg_metagrammar.specs.FigureRules.{char_rule}
use Rattle.peg_metagrammar.specs.FigureText.{line_start}
use Rattle.peg_metagrammar.specs.EscapedFigure.{escaped_figure, numbered_now}
use Rattle.peg_metagrammar.specs.Figure.{char_sign, char_three_digits, char_two_digits, char_alone, on_line}
use Rattle.peg_metagrammar.specs.Denotation.{is_octal, octal, rules_spelled}
use Rattle.peg_metagrammar.specs.SimpleEscapes.{simple_escape}

-- Char <- '\\' [nrt'"\[\]\\] / '\\' [0-2][0-7][0-7] / '\\' [0-7][0-7]? / !'\\' .
abbrev pub printed_char : Form
printed_char =
    let line = line_start char_rule in
    Choice (char_sign line) (forms (char_three_digits line ∷ char_two_digits line ∷ char_alone line ∷ []))
    (on_line char_rule 39 109)

-- a rule, with this expression as its body if it is Char
abbrev pub with_char : Form → Rule → Rule
with_char body rule =
    if bytes_eq rule.name (codes "Char") then record { name = rule.name; span = rule.span; body = body } else rule

-- the printed figure
abbrev pub printed_figure : List Rule
printed_figure = map (with_char printed_char) escaped_figure

-- a rule of the printed figure matches a file between two offsets, and gives these trees
abbrev pub MatchesPrinted : List ℕ → (name : List ℕ) → (start end : ℕ) → Trees → Type 0
MatchesPrinted file name start end trees =
    (r : Record) × (IsRecord printed_figure file (Name name (between 0 0)) 0 start r) × (r.result ≡ Matched end trees)

-- the reading of a file by the printed figure: the rules that its tree denotes
abbrev pub IsPrintedReading : List ℕ → List Rule → Type 0
IsPrintedReading file rules =
    (end : ℕ) × (trees : Trees) × MatchesPrinted file (codes "Grammar") 0 end trees
    × (rules ≡ rules_spelled file (numbered_now trees))

-- The byte that the text of a printed Char denotes. A single byte denotes itself. A backslash comes before an escape
-- letter or octal digits. No Char has an empty text.
abbrev pub printed_byte : List ℕ → ℕ
printed_byte [] = 0
printed_byte (byte ∷ []) = byte
printed_byte (backslash ∷ sign ∷ digits) = if is_octal sign then octal (sign ∷ digits) else simple_escape sign
