-- The metagrammar before counts were added: its 29 rules are those of the metagrammar without COUNT and Number, and
-- with a rule Suffix without COUNT. Only the laws that files of older notations keep their reading refer to it.
use Rattle.std.specs.Prelude.{◌≡◌, ℕ, ◌+◌, List, [], ◌∷◌, ◌++◌, map, take, drop, codes, bytes_eq, nat_lt, if◌then◌else◌}
use Rattle.peg_bytes.specs.Extent.{between}
use Rattle.peg_tree.specs.Trees.{Trees, NoTrees, Tree}
use Rattle.peg_semantics.specs.Form.{Form, Name, Seq, Choice, Optional, forms}
use Rattle.peg_semantics.specs.Record.{Record, Matched, IsRecord}
use Rattle.peg_semantics.specs.Rules.{Rule}
use Rattle.peg_metagrammar.specs.Figure.{figure, on_line}
use Rattle.peg_metagrammar.specs.FigureRules.{suffix_rule, count_rule, open_sign_rule}
use Rattle.peg_metagrammar.specs.Denotation.{rules_spelled}

-- Suffix <- Primary (QUESTION / STAR / PLUS)?
unfoldable pub escaped_suffix : Form
escaped_suffix = Seq (forms (Name (codes "Primary") (on_line suffix_rule 10 17) ∷ Optional
    (Choice (Name (codes "QUESTION") (on_line suffix_rule 19 27)) (forms (Name (codes "STAR")
    (on_line suffix_rule 30 34) ∷
    Name (codes "PLUS") (on_line suffix_rule 37 41) ∷ [])) (on_line suffix_rule 19 41))
    (on_line suffix_rule 18 43) ∷ [])) (on_line suffix_rule 10 43)

-- a rule, with its expression replaced if its name is Suffix
abbrev pub with_suffix_body : Form → Rule → Rule
with_suffix_body body rule =
    if bytes_eq rule.name (codes "Suffix") then record { name = rule.name; span = rule.span; body = body } else rule

-- the rules of the metagrammar without COUNT and Number
abbrev pub without_counts : List Rule → List Rule
without_counts rules = take count_rule rules ++ drop open_sign_rule rules

-- the older metagrammar of 29 rules, with hexadecimal escapes in rule Char but without counts
unfoldable pub escaped_figure : List Rule
escaped_figure = without_counts (map (with_suffix_body escaped_suffix) figure)

-- a rule of the older metagrammar matches the file from `start` to `end` and leaves these trees
abbrev pub MatchesEscaped : List ℕ → (name : List ℕ) → (start end : ℕ) → Trees → Type 0
MatchesEscaped file name start end trees =
    (r : Record) × (IsRecord escaped_figure file (Name name (between 0 0)) 0 start r) × (r.result ≡ Matched end trees)

-- The trees of the older metagrammar with the rule numbers of the current one, in which the rules after PLUS have
-- numbers greater by two.
abbrev pub number_now : ℕ → ℕ
number_now rule = if nat_lt rule count_rule then rule else rule + 2

abbrev pub numbered_now : Trees → Trees
numbered_now NoTrees = NoTrees
numbered_now (Tree rule start end children rest) =
    Tree (number_now rule) start end (numbered_now children) (numbered_now rest)

-- the reading of a file by the older metagrammar: the rules that its tree denotes
abbrev pub IsEscapedReading : List ℕ → List Rule → Type 0
IsEscapedReading file rules =
    (end : ℕ) × (trees : Trees) × MatchesEscaped file (codes "Grammar") 0 end trees
    × (rules ≡ rules_spelled file (numbered_now trees))
