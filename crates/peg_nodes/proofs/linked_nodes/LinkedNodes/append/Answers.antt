use Rattle.std.proofs.Common.{◌+◌, ◌^◌, ◌≤◌, ◌∷◌, [], arith, sym, append-nil}
use Rattle.peg_nodes.specs.declared.item.Item.TheVariants.{Stored}
use Rattle.peg_nodes.proofs.CountLemmas.{KeepsCuts-pushed}
use Rattle.peg_nodes.proofs.SoundLemmas.{IsSound-pushed}
use Rattle.peg_nodes.proofs.linked_nodes.LinkedNodes.append.Goals as goal

pub invariant_of-self-2 : goal.invariant_of-self-2
invariant_of-self-2 c =
    let nodes = c.self.inside in
    let most = c.self.invariant.few in
    let few : nodes.count + c.args.link.count ≤ 2 ^ 62 = omega arith in
    let is_link = rw (← c.self.view_is) at c.requires in
    rw c.in_ok-push.ensures.items
    (IsSound-pushed nodes.items.items nodes.stored.items nodes.opened.items nodes.opened.items nodes.count (Stored c.args.link) c.self.invariant
    is_link few (sym (append-nil nodes.opened.items)))

pub returns-clause-cuts : goal.returns-clause-cuts
returns-clause-cuts c =
    let nodes = c.self.inside in
    rw (← c.self.view_is, c.in_ok-push.ensures.items)
    (KeepsCuts-pushed nodes.items.items (Stored c.args.link ∷ []) nodes.stored.items)
