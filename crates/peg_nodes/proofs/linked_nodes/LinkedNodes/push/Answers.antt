use Rattle.std.proofs.Common.{◌∷◌, [], arith}
use Rattle.peg_nodes.specs.declared.item.Item.TheVariants.{Node}
use Rattle.peg_nodes.proofs.CountLemmas.{KeepsCuts-pushed, count_of-exact}
use Rattle.peg_nodes.proofs.ChangeLemmas.{IsSound-pushed_closed}
use Rattle.peg_nodes.proofs.linked_nodes.LinkedNodes.push.Goals as goal

pub push_open-requires-clause-few : goal.push_open-requires-clause-few
push_open-requires-clause-few c =
    let nodes = c.self.inside in
    let counted = c.self.invariant.counted in
    rw (← c.self.view_is) (omega (arith, count_of-exact nodes.stored.items nodes.items.items c.self.invariant.links))

pub invariant_of-self-2 : goal.invariant_of-self-2
invariant_of-self-2 c =
    let nodes = c.self.inside in
    rw c.in_ok-push.ensures.items
    (IsSound-pushed_closed nodes.items.items nodes.stored.items nodes.opened.items nodes.count c.args.node c.self.invariant
    c.if-node-eq0.false c.if-self-ge-MAX_NODES.false)

pub returns-clause-cuts : goal.returns-clause-cuts
returns-clause-cuts c =
    let nodes = c.self.inside in
    rw (← c.self.view_is, c.in_ok-push.ensures.items)
    (KeepsCuts-pushed nodes.items.items (Node c.args.node ∷ []) nodes.stored.items)
