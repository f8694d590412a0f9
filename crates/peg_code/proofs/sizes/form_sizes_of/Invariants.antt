use Rattle.std.proofs.Common.{◌≡◌, length}
use Rattle.peg_code.specs.Sizes.{AreFormSizesSoFar, TestsFitSoFar}
use Rattle.peg_code.proofs.sizes.form_sizes_of.Given as goal

-- the forms so far have their plans
abbrev pub invariant-loop-number : goal.invariant-loop-number
invariant-loop-number l = record {
  count : length l.form_sizes.items ≡ l.number;
  form_sizes : AreFormSizesSoFar l.core.forms l.form_sizes.items;
  tests : TestsFitSoFar (length l.core.spans) l.core.forms l.number;
}
