use Rattle.std.proofs.Common.{◌≡◌, ℕ, ◌+◌, ◌≤◌, ◌<◌, length, map, slice_get}
use Rattle.peg_tree.specs.Rows.{row_of}
use Rattle.peg_handle.specs.Nodes.{nodes_of_rows}
use Rattle.peg_handle.proofs.nodes.copy_rows.Given as goal

-- the first `i` nodes are copied, and the rest is as it was
abbrev pub invariant-nodes : goal.invariant-nodes
invariant-nodes l = record {
  length : length l.out ≡ length l.initial.out;
  copied : (place : ℕ) → place < l.i
      → slice_get l.out place ≡ slice_get (nodes_of_rows (map row_of l.nodes) l.levels) (l.from + place);
  kept : (place : ℕ) → l.i ≤ place → slice_get l.out place ≡ slice_get l.initial.out place;
}
