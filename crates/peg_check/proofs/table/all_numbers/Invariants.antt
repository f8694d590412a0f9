use Rattle.std.proofs.Common.{ℕ, ◌<◌, ◌≤◌, All, Contains}
use Rattle.peg_check.proofs.table.all_numbers.Given as goal

-- the list has all numbers from this one on
abbrev pub invariant-loop-number : goal.invariant-loop-number
invariant-loop-number l = record {
  below : l.number ≤ l.count;
  all : (k : ℕ) → l.number ≤ k → k < l.count → Contains l.numbers.items k;
  within : All (λ k. k < l.count) l.numbers.items;
}

abbrev pub decreases-loop-number : goal.decreases-loop-number
decreases-loop-number l = l.number
