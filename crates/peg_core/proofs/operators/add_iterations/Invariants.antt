use Rattle.std.proofs.Common.{◌+◌, ◌-◌, ◌*◌, ◌≤◌, length}
use Rattle.peg_core.specs.Layout.{max_forms}
use Rattle.peg_core.proofs.CountLemmas.{LaysRounds, needed}
use Rattle.peg_core.proofs.operators.add_iterations.Given as goal

-- the innermost iterations so far were appended, and the others are within the limit
abbrev pub invariant-loop-done : goal.invariant-loop-done
invariant-loop-done l = record {
  room : length l.builder.forms + 2 * (l.max - l.done) ≤ max_forms;
  so_far : LaysRounds l.fn.builder l.part (needed l.min l.max l.done) l.done l.rest l.builder;
}
