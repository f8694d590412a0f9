use Rattle.std.proofs.Common.{◌≡◌, length}
use Rattle.peg_check.specs.EmptyLoops.{AreFirstLoops}
use Rattle.peg_check.proofs.loops.first_loops.Given as goal

-- the forms so far have their entries
abbrev pub invariant-loop-number : goal.invariant-loop-number
invariant-loop-number l = record {
  count : length l.entries.items ≡ l.number;
  first : AreFirstLoops l.core l.entries.items;
}
