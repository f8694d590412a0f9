use Rattle.std.proofs.Common.{◌≡◌, ℕ, ◌<◌, length}
use Rattle.peg_check.specs.WellFormednessDeps.{HasDeps}
use Rattle.peg_check.specs.Dependencies.{dep_at}
use Rattle.peg_check.proofs.well_formedness.well_formedness_deps.Given as goal

-- the forms so far have the dependencies of their links
abbrev pub invariant-loop-number : goal.invariant-loop-number
invariant-loop-number l = record {
  count : length l.well_formedness.items ≡ l.number;
  checked_deps : (k : ℕ) → k < l.number → HasDeps l.core k (dep_at l.well_formedness.items k);
}
