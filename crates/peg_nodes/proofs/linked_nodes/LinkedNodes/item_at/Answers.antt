use Rattle.std.proofs.Common.{◌≡◌, ◌+◌, ◌-◌, All, List, ℕ, get_or, take, arith, sym, subst, ◌∙◌, ap}
use Rattle.std.proofs.lemmas.List.Elements.{All-take}
use Rattle.peg_nodes.specs.Invariant.{count_of, item_count, IsLinkItem}
use Rattle.peg_nodes.specs.Linked.{Linked}
use Rattle.peg_nodes.specs.declared.item.Item.{Item}
use Rattle.peg_nodes.proofs.CountLemmas.{count_of-exact, count_of-next}
use Rattle.peg_nodes.proofs.linked_nodes.LinkedNodes.item_at.Goals as goal
use Rattle.peg_nodes.proofs.linked_nodes.LinkedNodes.item_at.Goals.{After-index}

-- the nodes before the item, and its own, are those so far
next : (c : After-index)
    → c.items.before ≡ count_of (take (c.items.index - 1) c.args.self.now.items) + item_count c.index.result.now
next c =
    let items = c.args.self.now.items in
    let same = ap (λ (nodes : Linked). nodes.items) c.self.view_is in
    let is : c.index.result.now ≡ get_or items (c.items.index - 1) c.index.result.now =
    c.index.ensures ∙ ap (λ (l : List Item). get_or l (c.items.index - 1) c.index.result.now) same in
    c.items.invariant.counted
    ∙ count_of-next items c.items.index c.index.result.now (omega (arith, c.items-test.true)) c.items.invariant.within is

pub nodes_in-before-requires : goal.nodes_in-before-requires
nodes_in-before-requires c = omega (arith, next (goal.at.nodes_in-before-requires c).After-index, c.items.auto.before-fits)

pub overflow_sub-before : goal.overflow_sub-before
overflow_sub-before c =
    omega (arith, next (goal.at.overflow_sub-before c).After-index, c.nodes_in-before.ensures)

-- the nodes before the item are counted
left : (c : After-index) (count : ℕ) → count ≡ item_count c.index.result.now
    → c.items.before - count ≡ count_of (take (c.items.index - 1) c.args.self.now.items)
left c count is = omega (arith, next c, is)

pub returns-then-before-at-2 : goal.returns-then-before-at-2
returns-then-before-at-2 c =
    let nodes = c.args.self.now in
    let links = subst (λ (n : Linked). All (IsLinkItem n.stored) n.items) c.self.view_is c.self.invariant.links in
    let counted = left (goal.at.returns-then-before-at-2 c).After-index c.nodes_in-before.result c.nodes_in-before.ensures in
    record {
      within = omega (arith, c.items-test.true, c.items.invariant.within);
      counted = sym (count_of-exact nodes.stored (take (c.items.index - 1) nodes.items)
          (All-take (IsLinkItem nodes.stored) (c.items.index - 1) nodes.items links))
          ∙ sym counted ∙ c.if-before-at-2.true;
    }

pub items-preserved : goal.items-preserved
items-preserved c = record {
  within = omega (arith, c.items.invariant.within);
  counted = left (goal.at.items-preserved c).After-index c.nodes_in-before.result c.nodes_in-before.ensures;
}
