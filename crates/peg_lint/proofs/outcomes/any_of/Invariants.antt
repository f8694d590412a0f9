use Rattle.std.proofs.Common.{◌≡◌, ◌≤◌, length, map, drop}
use Rattle.peg_check.specs.Cans.{can_of}
use Rattle.peg_lint.specs.Outcomes.{outcome_of_any}
use Rattle.peg_lint.proofs.outcomes.any_of.Given as goal

-- the outcome so far is that of the alternatives from the index on
abbrev pub invariant-alternatives : goal.invariant-alternatives
invariant-alternatives l = record {
  within : l.index ≤ length l.alternatives;
  outcome : can_of l.outcome ≡ outcome_of_any (map can_of (drop l.index l.alternatives));
}

abbrev pub decreases-alternatives : goal.decreases-alternatives
decreases-alternatives l = l.index
