use Rattle.std.proofs.Common.{◌≡◌, ◌≤◌, ◌+◌, ◌-◌, length, map}
use Rattle.peg_tree.specs.Rows.{row_of}
use Rattle.peg_tree.specs.Trees.{nodes}
use Rattle.peg_tree.specs.TreesOfRows.{trees_of}
use Rattle.peg_tree.specs.Nodes.{node_at, root_count, child_at}
use Rattle.peg_tree.proofs.rows.count_in.Given as goal

-- `at` is the number of the child at index `count`
abbrev pub invariant-loop-at : goal.invariant-loop-at
invariant-loop-at l = record {
  few : l.count ≤ root_count (node_at (trees_of (map row_of l.rows)) l.node).children;
  low : l.count ≤ l.at;
  here : l.at ≡ child_at (trees_of (map row_of l.rows)) l.node l.count;
  all : l.end ≡ l.node + 1 + nodes (node_at (trees_of (map row_of l.rows)) l.node).children;
  within : l.end ≤ length l.rows;
}

abbrev pub decreases-loop-at : goal.decreases-loop-at
decreases-loop-at l = l.end - l.at
