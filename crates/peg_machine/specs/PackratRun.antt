-- A run with a memo that has capacity for each rule at each position.
use Rattle.std.specs.Prelude.{◌≢◌, ◌↔◌, ℕ, ◌+◌, ◌*◌, ◌≤◌, List, Contains, length}
use Rattle.std.specs.List.{AllPairs}
use Rattle.peg_semantics.specs.Record.{RuleCall}
use Rattle.peg_core.specs.CoreForm.{CoreForm}
use Rattle.peg_machine.specs.Traced.{IsVisited}

-- The bodies that ran are those of the calls in Ford's record of the start, each once (Ford 2002, section 3). So there
-- are at most the number of rules times the number of positions.
pub record RanOnce (bodies : List CoreForm) (text : List ℕ) (start : ℕ) (pairs : List RuleCall) : Type 0 where
  pub visited : (pair : RuleCall) → (Contains pairs pair ↔ IsVisited bodies text start pair)
  pub once : AllPairs (λ a b. a ≢ b) pairs
  pub bounded : length pairs ≤ length bodies * (length text + 1)
