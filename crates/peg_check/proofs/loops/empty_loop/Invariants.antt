use Rattle.std.proofs.Common.{ℕ, ◌<◌}
use Rattle.peg_bytes.specs.Extent.{Extent}
use Rattle.peg_core.specs.CoreLoops.{IsCoreEmptyLoop}
use Rattle.peg_core.specs.Layout.{bodies_of}
use Rattle.peg_check.proofs.loops.empty_loop.Given as goal

-- no rule so far has an empty loop
abbrev pub invariant-loop-rule : goal.invariant-loop-rule
invariant-loop-rule l =
    (before : ℕ) (other : Extent) → before < l.rule → ¬ IsCoreEmptyLoop (bodies_of l.core) before other
