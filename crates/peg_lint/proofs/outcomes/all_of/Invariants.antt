use Rattle.std.proofs.Common.{◌≡◌, ◌≤◌, length, map, drop}
use Rattle.peg_check.specs.Cans.{can_of}
use Rattle.peg_lint.specs.Outcomes.{outcome_of_all}
use Rattle.peg_lint.proofs.outcomes.all_of.Given as goal

-- the outcome so far is that of the items from the index on
abbrev pub invariant-items : goal.invariant-items
invariant-items l = record {
  within : l.index ≤ length l.items;
  outcome : can_of l.outcome ≡ outcome_of_all (map can_of (drop l.index l.items));
}

abbrev pub decreases-items : goal.decreases-items
decreases-items l = l.index
