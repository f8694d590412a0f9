use Rattle.std.proofs.Common.{◌≡◌, ◌+◌, ◌++◌, drop, length, map, take}
use Rattle.peg_tree.specs.Rows.{row_of}
use Rattle.peg_handle.specs.Nodes.{nodes_of_rows}
use Rattle.peg_handle.proofs.nodes.append_rows.Given as goal

-- the first `i` nodes are written, and what comes after them is as it was
abbrev pub invariant-nodes : goal.invariant-nodes
invariant-nodes l = record {
  length : length l.out ≡ length l.initial.out;
  added : take (l.used + l.i) l.out ≡ take l.used l.initial.out ++ take l.i (nodes_of_rows (map row_of l.nodes) l.levels);
  others : drop (l.used + l.i) l.out ≡ drop (l.used + l.i) l.initial.out;
}
