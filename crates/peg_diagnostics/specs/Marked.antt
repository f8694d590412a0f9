-- The marked grammar of rules. A marker is a rule of its own, which matches the empty string. Each alternative of a
-- choice is between calls of two markers, and the expression of each rule is before the call of one. So calls of
-- markers show which alternatives are tried, and which alternatives and rules match. Results and spans of other nodes
-- stay the same.
use Rattle.std.specs.Prelude.{ℕ, ◌+◌, ◌*◌, List, [], ◌∷◌, ◌++◌, if◌then◌else◌, length, map, nat_lt}
use Rattle.std.specs.Fmt.{decimal}
use Rattle.peg_bytes.specs.Extent.{Extent}
use Rattle.peg_tree.specs.Trees.{Trees, NoTrees, Tree}
use Rattle.peg_diagnostics.specs.Diagnostic.{form_extent}
use Rattle.peg_semantics.specs.Form.{Form, Forms, Literal, Class, Any, Name, Seq, Choice, Optional, Star, Plus, Counted}
use Rattle.peg_semantics.specs.Form.{And, Not, End, Then}
use Rattle.peg_semantics.specs.Rules.{Rule}

-- The number of alternatives in an expression: those of its choices, and those inside these.
abbrev mutual
  pub alternatives : Form → ℕ
  alternatives (Literal bytes span) = 0
  alternatives (Class set span) = 0
  alternatives (Any span) = 0
  alternatives (Name name span) = 0
  alternatives (Seq items span) = alternatives_of_all items
  alternatives (Choice first rest span) = 1 + alternatives first + alternatives_of_each rest
  alternatives (Optional part span) = alternatives part
  alternatives (Star part span) = alternatives part
  alternatives (Plus part span) = alternatives part
  alternatives (Counted part min max span) = alternatives part
  alternatives (And part span) = alternatives part
  alternatives (Not part span) = alternatives part

  -- in the items of a sequence
  pub alternatives_of_all : Forms → ℕ
  alternatives_of_all End = 0
  alternatives_of_all (Then e rest) = alternatives e + alternatives_of_all rest

  -- of a choice: each counts itself, too
  pub alternatives_of_each : Forms → ℕ
  alternatives_of_each End = 0
  alternatives_of_each (Then e rest) = 1 + alternatives e + alternatives_of_each rest

-- The extents of the alternatives in an expression, in written order: an alternative before those inside it.
abbrev mutual
  pub alternative_extents : Form → List Extent
  alternative_extents (Literal bytes span) = []
  alternative_extents (Class set span) = []
  alternative_extents (Any span) = []
  alternative_extents (Name name span) = []
  alternative_extents (Seq items span) = alternative_extents_of_all items
  alternative_extents (Choice first rest span) =
      form_extent first ∷ (alternative_extents first ++ alternative_extents_of_each rest)
  alternative_extents (Optional part span) = alternative_extents part
  alternative_extents (Star part span) = alternative_extents part
  alternative_extents (Plus part span) = alternative_extents part
  alternative_extents (Counted part min max span) = alternative_extents part
  alternative_extents (And part span) = alternative_extents part
  alternative_extents (Not part span) = alternative_extents part

  pub alternative_extents_of_all : Forms → List Extent
  alternative_extents_of_all End = []
  alternative_extents_of_all (Then e rest) = alternative_extents e ++ alternative_extents_of_all rest

  pub alternative_extents_of_each : Forms → List Extent
  alternative_extents_of_each End = []
  alternative_extents_of_each (Then e rest) =
      form_extent e ∷ (alternative_extents e ++ alternative_extents_of_each rest)

-- the name of a marker: `!`, which no identifier contains, and its number
abbrev pub marker_name : (marker : ℕ) → List ℕ
marker_name marker = 33 ∷ decimal marker

-- an expression and then the call of a marker
abbrev pub before_marker : (marker : ℕ) → (span : Extent) → Form → Forms
before_marker marker span e = Then e (Then (Name (marker_name marker) span) End)

abbrev pub with_end : (marker : ℕ) → (span : Extent) → Form → Form
with_end marker span e = Seq (before_marker marker span e) span

-- an alternative between the calls of its markers: the one with twice its number, and the next one
abbrev pub with_markers : (number : ℕ) → (span : Extent) → Form → Form
with_markers number span e =
    Seq (Then (Name (marker_name (2 * number)) span) (before_marker (2 * number + 1) span e)) span

-- An expression whose alternatives are marked, in written order, with the numbers from one on.
abbrev mutual
  pub mark : (number : ℕ) → Form → Form
  mark number (Literal bytes span) = Literal bytes span
  mark number (Class set span) = Class set span
  mark number (Any span) = Any span
  mark number (Name name span) = Name name span
  mark number (Seq items span) = Seq (mark_all number items) span
  mark number (Choice first rest span) =
      Choice (with_markers number (form_extent first) (mark (number + 1) first))
      (mark_each (number + 1 + alternatives first) rest) span
  mark number (Optional part span) = Optional (mark number part) span
  mark number (Star part span) = Star (mark number part) span
  mark number (Plus part span) = Plus (mark number part) span
  mark number (Counted part min max span) = Counted (mark number part) min max span
  mark number (And part span) = And (mark number part) span
  mark number (Not part span) = Not (mark number part) span

  pub mark_all : (number : ℕ) → Forms → Forms
  mark_all number End = End
  mark_all number (Then e rest) = Then (mark number e) (mark_all (number + alternatives e) rest)

  pub mark_each : (number : ℕ) → Forms → Forms
  mark_each number End = End
  mark_each number (Then e rest) =
      Then (with_markers number (form_extent e) (mark (number + 1) e)) (mark_each (number + 1 + alternatives e) rest)

-- a rule with another expression
abbrev pub with_body : Rule → Form → Rule
with_body rule body = record { name = rule.name; span = rule.span; body = body }

-- Rules whose alternatives are marked with the numbers from one on. Each ends with the call of a marker, from one on.
abbrev pub mark_rules : (number marker : ℕ) → List Rule → List Rule
mark_rules number marker [] = []
mark_rules number marker (rule ∷ more) =
    with_body rule (with_end marker rule.span (mark number rule.body))
    ∷ mark_rules (number + alternatives rule.body) (marker + 1) more

-- the number of all alternatives of rules
abbrev pub alternatives_of_rules : List Rule → ℕ
alternatives_of_rules [] = 0
alternatives_of_rules (rule ∷ more) = alternatives rule.body + alternatives_of_rules more

-- the extents of all alternatives of rules, in written order
abbrev pub extents_of_alternatives : List Rule → List Extent
extents_of_alternatives [] = []
extents_of_alternatives (rule ∷ more) = alternative_extents rule.body ++ extents_of_alternatives more

-- a marker with this extent; it matches the empty string
abbrev pub marker_rule : (marker : ℕ) → Extent → Rule
marker_rule marker span = record { name = marker_name marker; span = span; body = Seq End span }

-- the markers with the numbers from one on, with these extents
abbrev pub marker_rules : (marker : ℕ) → List Extent → List Rule
marker_rules marker [] = []
marker_rules marker (span ∷ more) = marker_rule marker span ∷ marker_rules (marker + 1) more

-- each extent two times
abbrev pub doubled : List Extent → List Extent
doubled [] = []
doubled (span ∷ more) = span ∷ span ∷ doubled more

-- the extents of the markers: two for each alternative, and then one for each rule
abbrev pub marker_extents : List Rule → List Extent
marker_extents rules = doubled (extents_of_alternatives rules) ++ map (λ (rule : Rule). rule.span) rules

-- the number of the markers
abbrev pub markers_of_rules : List Rule → ℕ
markers_of_rules rules = 2 * alternatives_of_rules rules + length rules

-- The marked rules in their order, and then the markers. So marker k has the rule number `length rules + k`.
abbrev pub marked_rules : List Rule → List Rule
marked_rules rules =
    mark_rules 0 (2 * alternatives_of_rules rules) rules ++ marker_rules 0 (marker_extents rules)

-- the trees without the nodes of rules with this number or a greater one
abbrev pub unmarked : (count : ℕ) → Trees → Trees
unmarked count NoTrees = NoTrees
unmarked count (Tree rule start end children rest) =
    if nat_lt rule count then Tree rule start end (unmarked count children) (unmarked count rest) else unmarked count
    rest
