use Rattle.std.proofs.Common.{◌≡◌, ◌≤◌, drop, length, map}
use Rattle.peg_tree.specs.Built.{objects_of, objects_of_trees}
use Rattle.peg_tree.specs.Rows.{row_of}
use Rattle.peg_tree.specs.TreesOfRows.{trees_of}
use Rattle.peg_tree.proofs.nested.nested.Given as goal

-- the stack has the objects of the trees of the nodes from `at` on
abbrev pub invariant-loop-at : goal.invariant-loop-at
invariant-loop-at g l = record {
  within : l.at ≤ length l.rows;
  built : objects_of l.stack.items ≡ objects_of_trees (g.N.Names.names l.names) (trees_of (map row_of (drop l.at l.rows)));
}

abbrev pub decreases-loop-at : goal.decreases-loop-at
decreases-loop-at g l = l.at
