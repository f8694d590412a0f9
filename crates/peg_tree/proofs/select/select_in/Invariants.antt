use Rattle.std.proofs.Common.{◌≡◌, ◌++◌, drop, map}
use Rattle.peg_tree.specs.Rows.{row_of}
use Rattle.peg_tree.specs.Selected.{has_rule}
use Rattle.peg_tree.specs.SelectedNodes.{shown_nodes}
use Rattle.peg_tree.proofs.select.select_in.Given as goal

-- the nodes so far and the shown ones that are left are the root and all shown nodes
abbrev pub invariant-below : goal.invariant-below
invariant-below l = record {
  same : map row_of l.nodes.items ++ shown_nodes (has_rule l.shown) (map row_of (drop l.at l.below))
      ≡ map row_of l.initial.nodes.items ++ shown_nodes (has_rule l.shown) (map row_of l.below);
}
