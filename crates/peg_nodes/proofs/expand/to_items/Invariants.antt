use Rattle.std.proofs.Common.{◌≡◌, map, take}
use Rattle.peg_nodes.specs.declared.item.Item.TheVariants.{Node}
use Rattle.peg_nodes.proofs.expand.to_items.Given as goal

-- the items are those of the nodes so far
abbrev pub invariant-loop-node : goal.invariant-loop-node
invariant-loop-node l = l.items.items ≡ map Node (take l.node-index l.nodes)
