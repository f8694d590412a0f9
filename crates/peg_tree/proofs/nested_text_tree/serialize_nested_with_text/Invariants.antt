use Rattle.std.proofs.Common.{◌≤◌, ◌+◌, ◌-◌, ◌*◌, length, map}
use Rattle.peg_tree.specs.Rows.{row_of}
use Rattle.peg_tree.specs.Sending.{objects_by}
use Rattle.peg_tree.specs.TreesOfRows.{trees_of}
use Rattle.peg_tree.proofs.NestedEvents.{IsSent}
use Rattle.peg_tree.proofs.TextLemmas.{text_object}
use Rattle.peg_tree.proofs.nested_text_tree.serialize_nested_with_text.Given as goal

-- the nodes before `at` are serialized, except for the ends of open nodes
abbrev pub invariant-nodes : goal.invariant-nodes
invariant-nodes g l = record {
  within : l.at ≤ length l.rows;
  sent : IsSent (g.N.Names.names l.names) (text_object (g.N.Names.names l.names) l.text) l.rows (length (g.N.Names.names l.names)) l.at l.stack.items
      (objects_by (text_object (g.N.Names.names l.names) l.text) (trees_of (map row_of l.rows))) (g.S.Serializer.written l.initial.out) (g.S.Serializer.written l.out);
}

abbrev pub decreases-nodes : goal.decreases-nodes
decreases-nodes g l = 2 * (length l.rows - l.at) + length l.stack.items
