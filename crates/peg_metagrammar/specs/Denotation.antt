-- What a metagrammar tree denotes: bytes, ranges, numbers, names, expressions and rules, with their extents in the
-- file. This is the meaning that Ford 2004, section 2.1, gives to the notation.
use Rattle.std.specs.Prelude.{ℕ, ◌+◌, ◌-◌, ◌*◌, Bool, List, [], ◌∷◌, ◌++◌, fold, take, drop, if◌then◌else◌, ◌==◌}
use Rattle.std.specs.Prelude.{◌&&◌, nat_le, not, slice_get, unwrap_or}
use Rattle.peg_bytes.specs.Extent.{Extent, between}
use Rattle.peg_tree.specs.Trees.{Trees, NoTrees, Tree}
use Rattle.peg_semantics.specs.Form.{Form, Literal, Class, Any, Name, Seq, Choice, Optional, Star, Plus, And, Not}
use Rattle.peg_semantics.specs.Form.{Counted, End, forms}
use Rattle.peg_semantics.specs.Grammar.{greatest_count}
use Rattle.peg_semantics.specs.Rules.{Rule}
use Rattle.peg_metagrammar.specs.FigureRules.{count_rule, spacing_rule}
use Rattle.peg_metagrammar.specs.Ranges.{Range, range, class_of}
use Rattle.peg_metagrammar.specs.SimpleEscapes.{simple_escape}

-- one part of what a tree denotes
pub data Denotation : Type 0 where
  Byte : (byte : ℕ) → Denotation
  Bytes : (bytes : Range) → Denotation
  Numeral : (value : ℕ) → Denotation
  Word : (name : List ℕ) → (span : Extent) → Denotation
  Sign : (form : Form → Extent → Form) → Denotation
  Expression : (form : Form) → Denotation
  Definition : (rule : Rule) → Denotation

-- ---- bytes

abbrev pub is_octal : ℕ → Bool
is_octal byte = nat_le 48 byte && nat_le byte 55

-- the number that octal digits denote
abbrev pub octal : List ℕ → ℕ
octal digits = fold (λ n digit. n * 8 + (digit - 48)) 0 digits

-- the value of a hexadecimal digit, upper or lower case
abbrev pub hexadecimal_value : ℕ → ℕ
hexadecimal_value digit =
    if nat_le digit 57 then digit - 48 else (if nat_le digit 70 then digit - 55 else digit - 87)

-- the number that hexadecimal digits denote
abbrev pub hexadecimal : List ℕ → ℕ
hexadecimal digits = fold (λ n digit. n * 16 + hexadecimal_value digit) 0 digits

-- The byte that the text of a Char denotes. A single byte denotes itself. After a backslash come x and hexadecimal
-- digits, octal digits, or an escape letter. No Char has an empty text.
abbrev pub byte_spelled : List ℕ → ℕ
byte_spelled [] = 0
byte_spelled (byte ∷ []) = byte
byte_spelled (backslash ∷ sign ∷ digits) =
    if sign == 120 then hexadecimal digits else (if is_octal sign then octal (sign ∷ digits) else simple_escape sign)

-- ---- numbers

-- the number that decimal digits denote
abbrev pub decimal : List ℕ → ℕ
decimal digits = fold (λ n digit. n * 10 + (digit - 48)) 0 digits

-- ---- the parts of one kind, in order

abbrev pub bytes_in : List Denotation → List ℕ
bytes_in [] = []
bytes_in (Byte byte ∷ pieces) = byte ∷ bytes_in pieces
bytes_in (_ ∷ pieces) = bytes_in pieces

abbrev pub ranges_in : List Denotation → List Range
ranges_in [] = []
ranges_in (Bytes bytes ∷ pieces) = bytes ∷ ranges_in pieces
ranges_in (_ ∷ pieces) = ranges_in pieces

abbrev pub numerals_in : List Denotation → List ℕ
numerals_in [] = []
numerals_in (Numeral value ∷ pieces) = value ∷ numerals_in pieces
numerals_in (_ ∷ pieces) = numerals_in pieces

abbrev pub expressions_in : List Denotation → List Form
expressions_in [] = []
expressions_in (Expression form ∷ pieces) = form ∷ expressions_in pieces
expressions_in (_ ∷ pieces) = expressions_in pieces

abbrev pub rules_denoted : List Denotation → List Rule
rules_denoted [] = []
rules_denoted (Definition rule ∷ pieces) = rule ∷ rules_denoted pieces
rules_denoted (_ ∷ pieces) = rules_denoted pieces

-- ---- what a node of each rule denotes, given what its children denote
--
-- Nodes of metagrammar trees have only the children described here. The equations for other lists only make the
-- functions total.

-- a list of one part
abbrev pub alone : Denotation → List Denotation
alone piece = piece ∷ []

-- a Range: two bytes denote the range from one to the other, one byte denotes itself; no Range has none or three
abbrev pub range_spelled : List ℕ → Range
range_spelled [] = range 1 0
range_spelled (byte ∷ []) = range byte byte
range_spelled (low ∷ high ∷ _) = range low high

-- the bounds of a count: the least and greatest number of repetitions
pub record Bounds : Type 0 where
  pub min : ℕ
  pub max : ℕ

abbrev pub bounds : (min max : ℕ) → Bounds
bounds min max = record { min = min; max = max }

-- a COUNT: two numbers denote the bounds, one number denotes both bounds; no COUNT has none or three
abbrev pub bounds_spelled : List ℕ → Bounds
bounds_spelled [] = bounds 0 0
bounds_spelled (times ∷ []) = bounds times times
bounds_spelled (min ∷ max ∷ _) = bounds min max

-- the expression repeated within bounds
abbrev pub counted_form : Bounds → Form → Extent → Form
counted_form bounds part span = Counted part bounds.min bounds.max span

-- a Primary: a name alone denotes a call; otherwise the node denotes what its parts denote
abbrev pub primary_spelled : List Denotation → List Denotation
primary_spelled (Word name span ∷ []) = Expression (Name name span) ∷ []
primary_spelled pieces = pieces

-- a Suffix or a Prefix: the operator, if there is one, applied to the expression
abbrev pub signed : Extent → List Denotation → List Denotation
signed span (Expression form ∷ Sign sign ∷ []) = Expression (sign form span) ∷ []
signed span (Sign sign ∷ Expression form ∷ []) = Expression (sign form span) ∷ []
signed span pieces = pieces

-- a Sequence: a single expression denotes itself, otherwise a sequence; an empty one is at the end of the previous
-- token
abbrev pub sequence_spelled : (before : ℕ) → Extent → List Form → Form
sequence_spelled before span [] = Seq End (between before before)
sequence_spelled before span (form ∷ []) = form
sequence_spelled before span (first ∷ second ∷ more) = Seq (forms (first ∷ second ∷ more)) span

-- an Expression: several sequences denote a choice, one denotes itself; no Expression has none
abbrev pub choice_spelled : Extent → List Form → Form
choice_spelled span [] = Seq End span
choice_spelled span (form ∷ []) = form
choice_spelled span (first ∷ second ∷ more) = Choice first (forms (second ∷ more)) span

-- a Definition: a name and its expression; no Definition has anything else
abbrev pub definition_spelled : List Denotation → List Denotation
definition_spelled (Word name span ∷ Expression form ∷ []) = Definition
    (record { name = name; span = span; body = form }) ∷ []
definition_spelled pieces = pieces

-- ---- trees

-- The end of the last token in the trees, without the spacing after it. Each token ends with a Spacing, so this is the
-- start of the last Spacing. Without any Spacing it is `before`, the end of the token before the trees.
abbrev pub text_end : (before : ℕ) → Trees → ℕ
text_end before NoTrees = before
text_end before (Tree rule start end children rest) =
    text_end (if rule == spacing_rule then start else text_end before children) rest

-- the bytes of the file from `start` to `end`
abbrev pub part : List ℕ → (start end : ℕ) → List ℕ
part file start end = take (end - start) (drop start file)

-- What a node of each rule denotes, in the order of the rules. `before` is the end of the token before the node, and
-- `last` the end of the node without its final spacing. `inner` is what its children denote.
abbrev pub node_spellings : List ℕ → (before start end last : ℕ) → List Denotation → List (List Denotation)
node_spellings file before start end last inner =
    inner  -- Grammar
    ∷ definition_spelled inner  -- Definition
    ∷ alone (Expression (choice_spelled (between start last) (expressions_in inner)))  -- Expression
    ∷ alone (Expression (sequence_spelled before (between start last) (expressions_in inner)))  -- Sequence
    ∷ signed (between start last) inner  -- Prefix
    ∷ signed (between start last) inner  -- Suffix
    ∷ primary_spelled inner  -- Primary
    ∷ alone (Word (part file start last) (between start last))  -- Identifier
    ∷ inner  -- IdentStart
    ∷ inner  -- IdentCont
    ∷ alone (Expression (Literal (bytes_in inner) (between start last)))  -- Literal
    ∷ alone (Expression (Class (class_of (ranges_in inner)) (between start last)))  -- Class
    ∷ alone (Bytes (range_spelled (bytes_in inner)))  -- Range
    ∷ alone (Byte (byte_spelled (part file start end)))  -- Char
    ∷ inner  -- LEFTARROW
    ∷ inner  -- SLASH
    ∷ alone (Sign And)  -- AND
    ∷ alone (Sign Not)  -- NOT
    ∷ alone (Sign Optional)  -- QUESTION
    ∷ alone (Sign Star)  -- STAR
    ∷ alone (Sign Plus)  -- PLUS
    ∷ alone (Sign (counted_form (bounds_spelled (numerals_in inner))))  -- COUNT
    ∷ alone (Numeral (decimal (part file start end)))  -- Number
    ∷ inner  -- OPEN
    ∷ inner  -- CLOSE
    ∷ alone (Expression (Any (between start last)))  -- DOT
    ∷ inner  -- Spacing
    ∷ inner  -- Comment
    ∷ inner  -- Space
    ∷ inner  -- EndOfLine
    ∷ inner  -- EndOfFile
    ∷ []

-- what a node of this rule number denotes; only metagrammar rules have nodes
abbrev pub node_spelled : List ℕ → (rule before start end last : ℕ) → List Denotation → List Denotation
node_spelled file rule before start end last inner =
    unwrap_or (slice_get (node_spellings file before start end last inner) rule) inner

-- what trees denote, where `before` is the end of the token before them
abbrev pub spelled : List ℕ → (before : ℕ) → Trees → List Denotation
spelled file before NoTrees = []
spelled file before (Tree rule start end children rest) =
    node_spelled file rule before start end (text_end before children) (spelled file before children)
    ++ spelled file (text_end before (Tree rule start end children NoTrees)) rest

-- the rules that a tree of Grammar denotes
abbrev pub rules_spelled : List ℕ → Trees → List Rule
rules_spelled file trees = rules_denoted (spelled file 0 trees)

-- ---- counts that are out of range

-- whether bounds are in range: min is at most max, and max is from 1 to 255
abbrev pub bounds_in_range : Bounds → Bool
bounds_in_range bounds = nat_le bounds.min bounds.max && nat_le 1 bounds.max && nat_le bounds.max greatest_count

-- the start of a node, as a list, if the node is a COUNT with bounds out of range
abbrev pub bad_count : (rule start : ℕ) → List Denotation → List ℕ
bad_count rule start inner =
    if rule == count_rule && not (bounds_in_range (bounds_spelled (numerals_in inner))) then start ∷ [] else []

-- the starts of the COUNT nodes with bounds out of range, in written order
abbrev pub bad_counts : List ℕ → Trees → List ℕ
bad_counts file NoTrees = []
bad_counts file (Tree rule start end children rest) =
    bad_count rule start (spelled file start children) ++ (bad_counts file children ++ bad_counts file rest)
