use Rattle.std.proofs.Common.{◌≡◌, true, is_ok, ◌-◌, ◌^◌, ◌<◌, ◌∷◌, [], ◌++◌, length, arith}
use Rattle.peg_nodes.proofs.CountLemmas.{count_of-exact}
use Rattle.peg_nodes.proofs.ChangeLemmas.{IsSound-pushed_open}
use Rattle.peg_nodes.proofs.linked_nodes.LinkedNodes.push_open.Goals as goal

pub invariant_of-self-2 : goal.invariant_of-self-2
invariant_of-self-2 c =
    let nodes = c.self.inside in
    let few : nodes.count < 2 ^ 62 =
    let counted = c.self.invariant.counted in
    let most = rw (← c.self.view_is) at c.requires.few in
    omega (arith, most, count_of-exact nodes.stored.items nodes.items.items c.self.invariant.links) in
    let index : c.len.result - 1 ≡ length nodes.items.items =
    omega (arith, c.len.ensures, c.in_ok-push.ensures.len, nodes.items.ok.0) in
    let is_pushed : is_ok c.push-2.result ≡ true = c.if-is_err.ensures.negation in
    let places : c.push-2.new.self.items ≡ nodes.opened.items ++ record
    { item = c.len.result - 1; before = nodes.count } ∷ [] =
    rw is_pushed at c.push-2.ensures.items in
    rw (c.in_ok-push.ensures.items, places)
    (IsSound-pushed_open nodes.items.items nodes.stored.items nodes.opened.items nodes.count (c.len.result - 1) c.args.node c.self.invariant
    c.requires.open few index)
