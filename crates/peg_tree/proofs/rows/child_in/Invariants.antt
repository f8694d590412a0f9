use Rattle.std.proofs.Common.{◌≡◌, ◌<◌, length, map}
use Rattle.peg_tree.specs.Rows.{row_of}
use Rattle.peg_tree.specs.TreesOfRows.{trees_of}
use Rattle.peg_tree.specs.Nodes.{child_at}
use Rattle.peg_tree.proofs.rows.child_in.Given as goal

-- `at` is the number of the child at index `_before`
abbrev pub invariant-loop-before : goal.invariant-loop-before
invariant-loop-before l = record {
  here : l.at ≡ child_at (trees_of (map row_of l.rows)) l.node l._before;
  within : l.at < length l.rows;
}
