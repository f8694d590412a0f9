use Rattle.std.proofs.Common.{◌≡◌, reverse, vec_len}
use Rattle.std.specs.Vec.{vec_capacity}
use Rattle.peg_tree.specs.Levels.{open_at}
use Rattle.peg_tree.proofs.levels.close_ended.Given as goal

-- popping does not change which ends are open, and the capacity is unchanged
abbrev pub invariant-loop-end : goal.invariant-loop-end
invariant-loop-end l = record {
  ended : open_at l.at (reverse l.ends.items) ≡ open_at l.at (reverse l.initial.ends.items);
  capacity : vec_capacity l.ends ≡ vec_capacity l.initial.ends;
}

abbrev pub decreases-loop-end : goal.decreases-loop-end
decreases-loop-end l = vec_len l.ends
