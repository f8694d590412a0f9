use Rattle.std.proofs.Common.{◌≡◌, ◌+◌, ◌*◌, ◌<◌, All, length}
use Rattle.peg_check.specs.Marks.{count_unmarked}
use Rattle.peg_check.specs.Visits.{AreVisits}
use Rattle.peg_check.proofs.search_order.postorder.Given as goal

abbrev pub invariant-visits : goal.invariant-visits
invariant-visits l = record {
  count : length l.entered.items ≡ length l.well_formedness;
  order : All (λ number. number < length l.well_formedness) l.order.items;
  visits : AreVisits (length l.well_formedness) l.visits.items;
}

-- each iteration takes a visit from the list, and pushes others only if one more form is entered
abbrev pub decreases-visits : goal.decreases-visits
decreases-visits l = count_unmarked l.entered.items * (3 + 1) + length l.visits.items
