use Rattle.std.proofs.Common.{◌≡◌, length}
use Rattle.peg_check.specs.Distances.{AreNexts}
use Rattle.peg_check.proofs.next_rules.next_rules.Given as goal

abbrev pub invariant-loop-number : goal.invariant-loop-number
invariant-loop-number l = record {
  count : length l.nexts.items ≡ l.number;
  next : AreNexts l.core l.start l.distances l.nexts.items;
}
