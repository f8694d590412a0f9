-- The rules that a text calls at a position, outside predicates.
use Rattle.std.specs.Prelude.{◌≡◌, ℕ, ◌==◌, Bool, ◌&&◌, List}
use Rattle.std.specs.List.{list_any}
use Rattle.peg_diagnostics.specs.Blame.{StartHasBlame}
use Rattle.peg_semantics.specs.Record.{Record, RuleCall}
use Rattle.peg_semantics.specs.Rules.{Rule}
use Rattle.peg_tree.specs.Selected.{has_rule}

-- whether one of these calls is of a rule at a position
abbrev pub is_called : List RuleCall → (rule at : ℕ) → Bool
is_called calls rule at = list_any (λ (call : RuleCall). call.rule == rule && call.position == at) calls

-- The set has the rules that are called at a position in the blame of a text from a start. A call in a predicate is no
-- call of the blame.
abbrev pub HasCalledRules : List Rule → (text start : List ℕ) → (at : ℕ) → (set : List Bool) → Type 0
HasCalledRules rules text start at set = (blame : Record) → StartHasBlame rules text start blame
    → (rule : ℕ) → has_rule set rule ≡ is_called blame.calls rule at
