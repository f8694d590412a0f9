use Rattle.std.proofs.Common.{◌≡◌, ◌≤◌, length, take}
use Rattle.peg_nodes.specs.Invariant.{count_of}
use Rattle.peg_nodes.proofs.linked_nodes.LinkedNodes.item_at.Given as goal

-- the nodes before the index are counted
abbrev pub invariant-items : goal.invariant-items
invariant-items l = record {
  within : l.index ≤ length l.self.items;
  counted : l.before ≡ count_of (take l.index l.self.items);
}

abbrev pub decreases-items : goal.decreases-items
decreases-items l = l.index
