use Rattle.std.proofs.Common.{◌≡◌, reverse, vec_len}
use Rattle.peg_tree.specs.Levels.{open_at}
use Rattle.peg_handle.proofs.levels.close_ended.Given as goal

-- popping does not change which ends are open
abbrev pub invariant-loop-end : goal.invariant-loop-end
invariant-loop-end l = open_at l.at (reverse l.ends.items) ≡ open_at l.at (reverse l.initial.ends.items)

abbrev pub decreases-loop-end : goal.decreases-loop-end
decreases-loop-end l = vec_len l.ends
