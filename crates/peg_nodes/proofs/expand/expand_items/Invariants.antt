use Rattle.std.proofs.Common.{◌≡◌, [], map, take}
use Rattle.peg_tree.specs.Rows.{row_of}
use Rattle.peg_nodes.specs.Expansion.{images_of, expand}
use Rattle.peg_nodes.proofs.expand.expand_items.Given as goal

-- the nodes of the items so far
abbrev pub invariant-loop-item : goal.invariant-loop-item
invariant-loop-item l = record {
  rows : map row_of l.nodes.items ≡ expand (images_of l.stored) (take l.item-index l.items);
  empty : l.waiting.items ≡ [];
}
