use Rattle.std.proofs.Common.{◌∙◌}
use Rattle.peg_nodes.proofs.CountLemmas.{count_of-exact, whole_cut}
use Rattle.peg_nodes.proofs.linked_nodes.LinkedNodes.len.Goals as goal

pub returns-clause-count : goal.returns-clause-count
returns-clause-count c =
    let nodes = c.self.inside in
    rw (← c.self.view_is) (c.self.invariant.counted ∙ count_of-exact nodes.stored.items nodes.items.items c.self.invariant.links)

pub returns-clause-cut : goal.returns-clause-cut
returns-clause-cut c =
    let nodes = c.self.inside in
    rw (← c.self.view_is)
    (whole_cut nodes.items.items nodes.stored.items nodes.count
    (c.self.invariant.counted ∙ count_of-exact nodes.stored.items nodes.items.items c.self.invariant.links))
