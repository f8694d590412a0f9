use Rattle.std.proofs.Common.{◌+◌, ◌*◌, ◌++◌, length}
use Rattle.std.specs.List.{sum_by}
use Rattle.peg_check.proofs.DistanceLemmas.{IsSearch}
use Rattle.peg_check.proofs.distances.call_distances.Given as goal

-- each distance is at least the one that follows from the others, and at most that one unless the form is pending
abbrev pub invariant-looks : goal.invariant-looks
invariant-looks l = IsSearch l.core l.well_formedness l.start l.distances.items (l.later.items ++ l.now.items)

-- each iteration takes a form from the lists, and pushes others only if a distance gets less
abbrev pub decreases-looks : goal.decreases-looks
decreases-looks l =
    sum_by (λ d. d) l.distances.items * (length l.reverse_deps.entries.items + 1) + length (l.later.items ++ l.now.items)
