use Rattle.std.proofs.Common.{◌≡◌, ℕ, ◌+◌, ◌*◌, ◌<◌, ◌≤◌, ◌⊎◌, All, Contains, true, false, length}
use Rattle.std.specs.List.{sum_by}
use Rattle.peg_check.specs.Dependencies.{dep_at}
use Rattle.peg_check.specs.Marks.{is_marked, IsSettledIn, HasUnmarkedDep}
use Rattle.peg_check.specs.Fixpoint.{one_unless}
use Rattle.peg_check.proofs.marks.well_formed_marks.Given as goal

-- marked forms are settled; each other form is pending or depends on one that isn't marked
abbrev pub invariant-looks : goal.invariant-looks
invariant-looks l = record {
  count : length l.marks.items ≡ length l.well_formedness;
  within : All (λ number. number < length l.well_formedness) l.pending.items;
  rounds : (n : ℕ) × (n + sum_by one_unless l.marks.items ≤ length l.marks.items) × ((number : ℕ) → is_marked l.marks.items number ≡ true → IsSettledIn l.well_formedness n number);
  awaited : (number : ℕ) → number < length l.well_formedness → is_marked l.marks.items number ≡ false → Contains l.pending.items number ⊎ HasUnmarkedDep l.marks.items (dep_at l.well_formedness number);
}

-- each iteration takes a form from the list, and pushes others only if one more is marked
abbrev pub decreases-looks : goal.decreases-looks
decreases-looks l = sum_by one_unless l.marks.items * (length l.reverse_deps.entries.items + 1) + length l.pending.items
