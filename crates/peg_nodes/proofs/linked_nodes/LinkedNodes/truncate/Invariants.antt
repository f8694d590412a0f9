use Rattle.std.proofs.Common.{◌≡◌, length, take}
use Rattle.peg_nodes.specs.Linked.{IsCut}
use Rattle.peg_nodes.proofs.linked_nodes.LinkedNodes.truncate.Given as goal

-- some of the items are left, and `count` nodes are still a cut
abbrev pub invariant-loop-self : goal.invariant-loop-self
invariant-loop-self l = record {
  stored : l.self.stored ≡ l.fn.self.stored;
  items : l.self.items ≡ take (length l.self.items) l.fn.self.items;
  cut : IsCut l.self l.count;
}

abbrev pub decreases-loop-self : goal.decreases-loop-self
decreases-loop-self l = length l.self.items
