-- Describes code: what a tracer notes of the calls at a position.
use Rattle.std.specs.Prelude.{◌≡◌, ℕ, List, ◌∷◌}
use Rattle.peg_diagnostics.specs.LoudCalls.{calls_of_first}
use Rattle.peg_semantics.specs.Record.{RuleCall}
use Rattle.peg_tree.specs.Selected.{has_rule}
use Rattle.peg_blame.specs.BlameCalls.{is_called}
use Rattle.peg_blame.specs.Sought.{sought}
use Rattle.peg_blame.specs.declared.calls_at.CallsAt.{CallsAt}

-- A tracer has noted the calls after the first one. The first one says what it looks for. So a tracer that got more
-- calls looks for the same as before.
pub record HasNoted (noted : CallsAt) (calls : List RuleCall) : Type 0 where
  pub later : List RuleCall
  pub first : calls ≡ sought noted.rules noted.at ∷ later
  pub set : (rule : ℕ) → has_rule noted.set rule ≡ is_called (calls_of_first noted.rules later) rule noted.at
