use Rattle.std.proofs.Common.{◌≡◌, ℕ, ◌<◌, ◌⊎◌, All, get_or, length}
use Rattle.peg_check.specs.Distances.{AreOrdered}
use Rattle.peg_check.proofs.components.strongly_connected_components.Given as goal

-- earlier labels are greater than the number of roots that are left
abbrev pub invariant-roots : goal.invariant-roots
invariant-roots l = record {
  count : length l.labels.items ≡ length l.well_formedness;
  order : All (λ number. number < length l.well_formedness) l.order.items;
  earlier : (number : ℕ) → (get_or l.labels.items number 0 ≡ 0) ⊎ (length l.order.items < get_or l.labels.items number 0);
  ordered : AreOrdered l.well_formedness l.labels.items;
}

abbrev pub decreases-roots : goal.decreases-roots
decreases-roots l = length l.order.items
