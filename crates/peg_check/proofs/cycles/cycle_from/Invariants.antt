use Rattle.std.proofs.Common.{◌≡◌, ℕ, ◌<◌, ◌∷◌, ◌++◌, [], All, Contains, true, false, Some, length, slice_get}
use Rattle.std.specs.List.{sum_by}
use Rattle.peg_core.specs.Layout.{bodies_of}
use Rattle.peg_check.specs.Paths.{IsPath}
use Rattle.peg_check.specs.Marks.{is_marked}
use Rattle.peg_check.specs.Fixpoint.{one_unless}
use Rattle.peg_check.specs.Verdicts.{AllDiffer}
use Rattle.peg_check.proofs.cycles.cycle_from.Given as goal

-- the rules so far are a path to this rule, whose body isn't settled
abbrev pub invariant-steps : goal.invariant-steps
invariant-steps l = record {
  count : length l.seen.items ≡ length l.core.bodies;
  within : l.rule < length l.core.bodies;
  left : (body : ℕ) → slice_get l.core.bodies l.rule ≡ Some body → is_marked l.marks body ≡ false;
  path : IsPath (bodies_of l.core) (l.path.items ++ l.rule ∷ []);
  seen : (rule : ℕ) → is_marked l.seen.items rule ≡ true → Contains l.path.items rule;
  marked : All (λ rule. is_marked l.seen.items rule ≡ true) l.path.items;
  differ : AllDiffer l.path.items;
}

-- each iteration reaches a rule that wasn't seen
abbrev pub decreases-steps : goal.decreases-steps
decreases-steps l = sum_by one_unless l.seen.items
