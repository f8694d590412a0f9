use Rattle.peg_check.specs.Visits.{AreVisits}
use Rattle.peg_check.proofs.search_order.entered_all.Given as goal

-- the forms so far are to be entered
abbrev pub invariant-loop-number : goal.invariant-loop-number
invariant-loop-number l = AreVisits l.count l.visits.items
