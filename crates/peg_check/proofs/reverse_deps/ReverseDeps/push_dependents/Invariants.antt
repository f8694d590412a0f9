use Rattle.std.proofs.Common.{ℕ, ◌+◌, ◌<◌, ◌≤◌, ◌⊎◌, All, Contains, length}
use Rattle.peg_check.specs.ReverseDeps.{ChainContains, HasDependent}
use Rattle.peg_check.proofs.reverse_deps.ReverseDeps.push_dependents.Given as goal

-- the users in the chain before this entry were pushed
abbrev pub invariant-loop-at : goal.invariant-loop-at
invariant-loop-at l = record {
  within : l.at ≤ length l.self.entries.items;
  room : length l.pending.items + l.at ≤ length l.fn.pending.items + length l.self.entries.items;
  kept : (number : ℕ) → Contains l.fn.pending.items number → Contains l.pending.items number;
  forms : All (λ number. number < length l.self.newest.items) l.pending.items;
  dependents : (dependent : ℕ) → HasDependent l.self l.part dependent → Contains l.pending.items dependent ⊎ ChainContains l.self.entries.items l.at dependent;
}

abbrev pub decreases-loop-at : goal.decreases-loop-at
decreases-loop-at l = l.at
