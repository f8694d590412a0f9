-- Describes code: what a `CallCounts` has counted.
use Rattle.std.specs.Prelude.{◌≡◌, ◌↔◌, ℕ, ◌<◌, ◌≤◌, List, [], Contains, length, slice_index_or}
use Rattle.peg_semantics.specs.Record.{RuleCall}
use Rattle.peg_profile.specs.Positions.{positions_of}
use Rattle.peg_profile.specs.declared.counts.CallCounts.{CallCounts}
use Rattle.peg_profile.specs.declared.counts.RuleCalls.{RuleCalls}

-- calls at these positions were counted
pub record AreCounted (positions : List ℕ) (counts : RuleCalls) : Type 0 where
  pub calls : counts.calls ≡ length positions
  pub same : (n : ℕ) → (Contains counts.positions.items n ↔ Contains positions n)

-- These calls of any rules were counted, in a list with the counts of the first rules. A rule past its end had no call.
pub record AreCountedIn (list : List RuleCalls) (calls : List RuleCall) : Type 0 where
  pub listed : (rule : ℕ) (d : RuleCalls) → rule < length list
      → AreCounted (positions_of rule calls) (slice_index_or list rule d)
  pub others : (rule : ℕ) → length list ≤ rule → positions_of rule calls ≡ []

-- a tracer has counted these calls
abbrev pub HasCounted : CallCounts → List RuleCall → Type 0
HasCounted counts calls = AreCountedIn counts.rules.items calls
