use Rattle.std.proofs.Common.{◌≡◌, ℕ, ◌<◌, false, length}
use Rattle.peg_core.specs.CoreLoops.{CoreCanCallFirst}
use Rattle.peg_core.specs.Layout.{bodies_of, form_at}
use Rattle.peg_check.specs.Marks.{is_marked}
use Rattle.peg_check.proofs.cycles.left_call.Given as goal

-- this form isn't settled, and the first form left-calls what it left-calls
abbrev pub invariant-parts : goal.invariant-parts
invariant-parts l = record {
  within : l.number < length l.core.forms;
  left : is_marked l.marks l.number ≡ false;
  meets : (rule : ℕ) → CoreCanCallFirst (bodies_of l.core) (form_at l.core.forms l.number) rule → CoreCanCallFirst (bodies_of l.core) (form_at l.core.forms l.form) rule;
}

abbrev pub decreases-parts : goal.decreases-parts
decreases-parts l = l.number
