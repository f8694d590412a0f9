use Rattle.std.proofs.Common.{◌≡◌, ◌+◌, length}
use Rattle.std.specs.Fmt.{decimal}
use Rattle.peg_tree.proofs.write.digits_of.Given as goal

-- the digits counted so far and the digits of `left` are all digits of the number
abbrev pub invariant-loop-left : goal.invariant-loop-left
invariant-loop-left l = record {
  digits : l.count + length (decimal l.left) ≡ length (decimal l.number);
}

abbrev pub decreases-loop-left : goal.decreases-loop-left
decreases-loop-left l = l.left
