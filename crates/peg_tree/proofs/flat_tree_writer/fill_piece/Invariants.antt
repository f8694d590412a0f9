use Rattle.std.proofs.Common.{◌≡◌, ◌-◌, ◌≤◌, ◌++◌, length, take}
use Rattle.std.specs.Vec.{vec_capacity}
use Rattle.peg_tree.specs.RowText.{EachAtMost, levels_from, text_from}
use Rattle.peg_tree.proofs.flat_tree_writer.fill_piece.Given as goal

-- the bytes in the buffer and the remaining text are the whole text, and the capacity suffices for all ends
abbrev pub invariant-loop-at : goal.invariant-loop-at
invariant-loop-at g l = record {
  text : text_from (g.S.Shows.shown l.shown) l.names l.rows l.from l.initial.ends.items
      ≡ take l.end l.buffer ++ text_from (g.S.Shows.shown l.shown) l.names l.rows l.at l.ends.items;
  levels : EachAtMost (vec_capacity l.ends) (levels_from (g.S.Shows.shown l.shown) l.rows l.at l.ends.items);
  within : l.end ≤ length l.buffer;
}

abbrev pub decreases-loop-at : goal.decreases-loop-at
decreases-loop-at g l = length l.rows - l.at
