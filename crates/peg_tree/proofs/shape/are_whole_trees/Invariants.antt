use Rattle.std.proofs.Common.{◌≡◌, ◌+◌, ◌-◌, ◌≤◌, drop, length, map}
use Rattle.peg_tree.specs.Rows.{row_of}
use Rattle.peg_tree.specs.Trees.{nodes}
use Rattle.peg_tree.specs.TreesOfRows.{trees_of, first_trees, IsForest}
use Rattle.peg_tree.proofs.shape.are_whole_trees.Given as goal

-- the result for the remaining nodes is the result for all nodes
abbrev pub invariant-loop-left : goal.invariant-loop-left
invariant-loop-left l = record {
  within : l.at ≤ length l.rows;
  fits : l.left ≤ l.count;
  forest : IsForest (map row_of (drop l.at l.rows));
  same : (l.count - l.left) + nodes (first_trees l.left (trees_of (map row_of (drop l.at l.rows))))
      ≡ nodes (first_trees l.count (trees_of (map row_of l.rows)));
}

abbrev pub decreases-loop-left : goal.decreases-loop-left
decreases-loop-left l = l.left
