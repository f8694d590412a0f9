-- Which rules a message names, and for which items they stand. This is the project's own definition.
use Rattle.std.specs.Prelude.{◌≡◌, ℕ, ◌==◌, Bool, true, false, not, ◌&&◌, All, List, Option, None, Some, bytes_eq, drop}
use Rattle.std.specs.Prelude.{filter, length, map, nat_lt, option_map, slice_get, slice_index_or, take}
use Rattle.std.specs.List.{list_any, range_with_len}
use Rattle.peg_blame.specs.BlameCalls.{HasCalledRules, is_called}
use Rattle.peg_blame.specs.BlameOutcome.{IsBlameOutcome}
use Rattle.peg_bytes.specs.Extent.{Extent, between}
use Rattle.peg_diagnostics.specs.declared.kinds.ItemKind.{ItemKind}
use Rattle.peg_diagnostics.specs.declared.kinds.ItemKind.TheVariants.{Byte}
use Rattle.peg_semantics.specs.Form.{Any, Form, Not}
use Rattle.peg_semantics.specs.Record.{RuleCall}
use Rattle.peg_semantics.specs.Rules.{Rule, name_of}
use Rattle.peg_spacing.specs.Spacing.{has_flag}
use Rattle.peg_tree.specs.Selected.{has_rule}
use Rattle.peg_tree.specs.declared.outcome.Parsed.{Parsed}
use Rattle.peg_tree.specs.declared.outcome.Parsed.TheVariants.{Failed, Matched}
use Rattle.peg_explain.specs.declared.names.Rest.{Rest}

-- the extent with a number
abbrev pub numbered_extent : List Extent → (number : ℕ) → Extent
numbered_extent extents number = slice_index_or extents number (between 0 0)

-- a class or a dot, which test one byte
abbrev pub is_byte : Option ItemKind → Bool
is_byte (Some Byte) = true
is_byte other = false

-- the item with a number is a class or a dot
abbrev pub is_class_or_dot : List ItemKind → (number : ℕ) → Bool
is_class_or_dot kinds number = is_byte (slice_get kinds number)

-- ---- rules that are called at a position

-- the most rules that a message looks at
unfoldable pub max_named : ℕ
max_named = 64

-- the predicate `!.`, which expects the end of the text
abbrev pub is_any : Form → Bool
is_any (Any span) = true
is_any other = false

abbrev pub is_end : Form → Bool
is_end (Not part span) = is_any part
is_end other = false

-- the rule with a number is nothing but the end of the text
abbrev pub is_end_rule : Option Form → Bool
is_end_rule None = false
is_end_rule (Some body) = is_end body

-- a rule can be named if it is neither the start nor the end of the text, and isn't left out as spacing
abbrev pub can_be_named : List Rule → (spacing : List Bool) → (start : List ℕ) → (rule : ℕ) → Bool
can_be_named rules spacing start rule =
    not (bytes_eq (name_of rules rule) start) && not (is_end_rule (option_map (λ r. r.body) (slice_get rules rule)))
    && not (has_flag spacing rule)

-- the rules that can be named and are called at a position, in ascending order
abbrev pub rules_called_at : List Rule → (spacing : List Bool) → (start : List ℕ) → List RuleCall → (at : ℕ) → List ℕ
rules_called_at rules spacing start calls at =
    filter (λ rule. is_called calls rule at && can_be_named rules spacing start rule) (range_with_len 0 (length rules))

-- The rest of a text from a position, parsed from a rule: its outcome by its blame, and the rules that the blame calls
-- at the start of the rest.
pub record IsRest (rules : List Rule) (text : List ℕ) (at : ℕ) (rest : Rest) : Type 0 where
  pub outcome : IsBlameOutcome rules (drop at text) (name_of rules rest.rule) rest.outcome
  pub called : HasCalledRules rules (drop at text) (name_of rules rest.rule) 0 rest.called

-- The rest of the text was parsed from the first rules that are called at the position.
pub record AreRests (rules : List Rule) (spacing : List Bool) (text start : List ℕ) (calls : List RuleCall) (at : ℕ)
    (rests : List Rest) : Type 0 where
  pub from : map (λ rest. rest.rule) rests ≡ take max_named (rules_called_at rules spacing start calls at)
  pub each : All (IsRest rules text at) rests

-- ---- rules that fail at once

abbrev pub has_failed : Parsed → Bool
has_failed Failed = true
has_failed (Matched end tree) = false

-- a rule fails at once: it doesn't match, and no item failed after its start
abbrev pub fails_at_once : Rest → Bool
fails_at_once rest = has_failed rest.outcome.result && rest.outcome.far == 0

-- the item failed at the start of a rest, and no item failed after it
abbrev pub is_expected_by : Rest → (item : ℕ) → Bool
is_expected_by rest item =
    rest.outcome.far == 0 && list_any (λ (failed : ℕ). failed == item) rest.outcome.expected.items

-- the item is a part of a rule that fails at once, and the grammar has the item
abbrev pub is_part : List Rest → (items : ℕ) → (item : ℕ) → Bool
is_part rests items item =
    list_any (λ rest. has_failed rest.outcome.result && is_expected_by rest item) rests && nat_lt item items

-- another rule that fails at once calls the rule at its start
abbrev pub is_inside : List Rest → (rule : ℕ) → Bool
is_inside rests rule =
    list_any (λ rest. fails_at_once rest && not (rest.rule == rule) && has_rule rest.called rule) rests

-- The outermost rules that fail at once, in ascending order. They stand for all items that are a part of such a rule.
abbrev pub outermost_rules : List Rest → List ℕ
outermost_rules rests =
    map (λ rest. rest.rule) (filter (λ rest. fails_at_once rest && not (is_inside rests rest.rule)) rests)

-- ---- rules that match the empty string

-- the item failed at once in the call of the rule at the position
abbrev pub stands_for : List Rest → (rule item : ℕ) → Bool
stands_for rests rule item = list_any (λ (rest : Rest). rest.rule == rule && is_expected_by rest item) rests
