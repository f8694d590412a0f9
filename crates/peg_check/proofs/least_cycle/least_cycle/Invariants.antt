use Rattle.std.proofs.Common.{ℕ, ◌<◌, List, ◌∷◌}
use Rattle.peg_core.specs.CoreLoops.{IsCoreLeftCycle}
use Rattle.peg_core.specs.Layout.{bodies_of}
use Rattle.peg_check.proofs.least_cycle.least_cycle.Given as goal

-- no rule so far is on a left cycle
abbrev pub invariant-loop-rule : goal.invariant-loop-rule
invariant-loop-rule l =
    (before : ℕ) (more : List ℕ) → before < l.rule → ¬ IsCoreLeftCycle (bodies_of l.core) (before ∷ more)
