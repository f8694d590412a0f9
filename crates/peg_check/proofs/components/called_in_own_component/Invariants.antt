use Rattle.std.proofs.Common.{◌≡◌, ℕ, ◌<◌, Some, get_or, length, slice_get, true}
use Rattle.peg_core.specs.CoreForm.{Rule}
use Rattle.peg_core.specs.Layout.{form_at}
use Rattle.peg_check.specs.Marks.{is_marked}
use Rattle.peg_check.proofs.components.called_in_own_component.Given as goal

-- the rules with such a call among the forms so far are marked
abbrev pub invariant-loop-number : goal.invariant-loop-number
invariant-loop-number l = record {
  count : length l.rules.items ≡ length l.core.bodies;
  called : (number rule body : ℕ) → number < l.number → form_at l.core.forms number ≡ Rule rule
      → slice_get l.core.bodies rule ≡ Some body → get_or l.labels number 0 ≡ get_or l.labels body 0
      → is_marked l.rules.items rule ≡ true;
}
