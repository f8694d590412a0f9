use Rattle.peg_nodes.proofs.SoundLemmas.{IsSound-empty}
use Rattle.peg_nodes.proofs.linked_nodes.LinkedNodes.new.Goals as goal

pub invariant_of-result : goal.invariant_of-result
invariant_of-result c = rw (c.new.ensures.items, c.new-2.ensures.items, c.new-3.ensures.items) IsSound-empty
