use Rattle.std.proofs.Common.{◌≡◌, ◌+◌, ◌<◌, ℕ, ◌∷◌, map, true}
use Rattle.peg_check.specs.Cans.{can_of}
use Rattle.peg_lint.specs.Linting.{can_at}
use Rattle.peg_lint.proofs.alternatives.first_certain.Given as goal

abbrev pub invariant-alternatives : goal.invariant-alternatives
invariant-alternatives l =
    (k : ℕ) → k < l.index + 1 → (can_at (can_of l.fn.can ∷ map can_of l.cans) k).fails ≡ true
