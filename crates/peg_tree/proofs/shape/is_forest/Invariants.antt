use Rattle.std.proofs.Common.{◌≤◌, drop, length, map}
use Rattle.peg_tree.specs.Rows.{row_of}
use Rattle.peg_tree.specs.TreesOfRows.{IsForest}
use Rattle.peg_tree.proofs.shape.is_forest.Given as goal

-- the nodes from `at` on are a forest
abbrev pub invariant-loop-at : goal.invariant-loop-at
invariant-loop-at l = record {
  within : l.at ≤ length l.rows;
  forest : IsForest (map row_of (drop l.at l.rows));
}

abbrev pub decreases-loop-at : goal.decreases-loop-at
decreases-loop-at l = l.at
