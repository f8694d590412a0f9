use Rattle.std.proofs.Common.{◌≡◌, ℕ, ◌<◌, true}
use Rattle.peg_check.specs.Marks.{is_marked}
use Rattle.peg_check.proofs.marks.first_unmarked.Given as goal

-- the forms so far are marked
abbrev pub invariant-loop-number : goal.invariant-loop-number
invariant-loop-number l = (k : ℕ) → k < l.number → is_marked l.marks k ≡ true
