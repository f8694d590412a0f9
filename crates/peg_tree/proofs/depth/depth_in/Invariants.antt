use Rattle.std.proofs.Common.{◌≡◌, ◌+◌, ◌*◌, length, map, max}
use Rattle.peg_tree.specs.Parts.{AreParts, level_of_parts, length_of_parts}
use Rattle.peg_tree.specs.Rows.{row_of}
use Rattle.peg_tree.specs.Trees.{levels}
use Rattle.peg_tree.specs.TreesOfRows.{trees_of}
use Rattle.peg_tree.proofs.depth.depth_in.Given as goal

-- the greatest level so far, or that of the parts on the stack, is that of the tree
abbrev pub invariant-loop-part : goal.invariant-loop-part
invariant-loop-part l = record {
  parts : AreParts (map row_of l.rows) 64 l.waiting;
  same : max l.deepest (level_of_parts (map row_of l.rows) l.waiting) ≡ levels (trees_of (map row_of l.rows));
}

-- each step takes a node from the parts, or pops an empty part
abbrev pub decreases-loop-part : goal.decreases-loop-part
decreases-loop-part l = 2 * length_of_parts l.waiting + length l.waiting
