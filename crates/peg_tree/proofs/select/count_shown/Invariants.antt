use Rattle.std.proofs.Common.{◌≡◌, ◌≤◌, ◌+◌, ℕ, map, slice_index_or, take, vec_len}
use Rattle.peg_tree.specs.Rows.{row_of}
use Rattle.peg_tree.specs.Selected.{has_rule}
use Rattle.peg_tree.specs.SelectedNodes.{shown_count}
use Rattle.peg_tree.proofs.select.count_shown.Given as goal

-- the counts up to this node, and the last of them
abbrev pub invariant-rows : goal.invariant-rows
invariant-rows l = record {
  len : vec_len l.counts ≡ l.row-index + 1;
  last : l.count ≡ shown_count (has_rule l.shown) (map row_of (take l.row-index l.rows));
  each : (at : ℕ) → at ≤ l.row-index → slice_index_or l.counts.items at 0
      ≡ shown_count (has_rule l.shown) (map row_of (take at l.rows));
}
