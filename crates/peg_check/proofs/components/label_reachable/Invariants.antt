use Rattle.std.proofs.Common.{◌≡◌, ◌+◌, ◌*◌, ◌<◌, All, List, length}
use Rattle.peg_check.specs.Distances.{AreOrdered}
use Rattle.peg_check.specs.ReverseDeps.{HasAllDependents}
use Rattle.peg_check.specs.declared.dependency.Dependency.{Dependency}
use Rattle.peg_check.proofs.LabelLemmas.{unlabelled, AreEarlier, AreAwaited}
use Rattle.peg_check.proofs.components.label_reachable.Given as goal

abbrev pub invariant-dependents : goal.invariant-dependents
invariant-dependents l = record {
  count : length l.labels ≡ length l.fn.labels;
  within : All (λ number. number < length l.labels) l.pending.items;
  earlier : AreEarlier l.labels l.label;
  awaited : (well_formedness : List Dependency) → length well_formedness ≡ length l.fn.labels
      → HasAllDependents l.reverse_deps well_formedness → AreOrdered well_formedness l.fn.labels
      → AreAwaited well_formedness l.labels l.pending.items l.label;
}

-- each iteration takes a form from the list, and pushes others only if one more form gets a label
abbrev pub decreases-dependents : goal.decreases-dependents
decreases-dependents l = unlabelled l.labels * (length l.reverse_deps.entries.items + 1) + length l.pending.items
