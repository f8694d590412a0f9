use Rattle.std.proofs.Common.{◌≡◌, ℕ, ◌<◌, All, Contains, length}
use Rattle.peg_core.specs.CoreForm.{Rule}
use Rattle.peg_core.specs.Layout.{form_at}
use Rattle.peg_check.proofs.distances.calls_of.Given as goal

abbrev pub invariant-loop-number : goal.invariant-loop-number
invariant-loop-number l = record {
  all : (number : ℕ) → number < l.number → form_at l.core.forms number ≡ Rule l.start → Contains l.calls.items number;
  within : All (λ number. number < length l.core.forms) l.calls.items;
}
