use Rattle.std.proofs.Common.{◌≡◌, ℕ, ◌<◌, get_or}
use Rattle.peg_check.proofs.cycles.from_rule.Given as goal

-- the rule isn't among those so far
abbrev pub invariant-loop-at : goal.invariant-loop-at
invariant-loop-at l = (k : ℕ) → k < l.at → get_or l.path k 0 ≡ l.rule → ⊥
