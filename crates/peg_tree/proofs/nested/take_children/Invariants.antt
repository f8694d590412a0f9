use Rattle.std.proofs.Common.{◌≡◌, ◌++◌, length, map}
use Rattle.serde_json.specs.View.{view}
use Rattle.peg_tree.specs.Built.{objects_of, take_values, left_after}
use Rattle.peg_tree.proofs.nested.take_children.Given as goal

-- the objects taken so far and those still to be taken are all objects to take
abbrev pub invariant-loop-built : goal.invariant-loop-built
invariant-loop-built l = record {
  all : map view l.children.items ++ take_values l.left (objects_of l.stack.items) ≡ take_values l.count (objects_of l.initial.stack.items);
  rest : left_after l.left (objects_of l.stack.items) ≡ left_after l.count (objects_of l.initial.stack.items);
}

abbrev pub decreases-loop-built : goal.decreases-loop-built
decreases-loop-built l = length l.stack.items
