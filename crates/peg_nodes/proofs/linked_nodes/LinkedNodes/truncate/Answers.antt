use Rattle.std.proofs.Common.{◌<◌, ◌≤◌, length, arith, ap, sym, subst, ◌∙◌}
use Rattle.peg_nodes.specs.Linked.{Linked, nodes_of, IsCut}
use Rattle.peg_nodes.proofs.CountLemmas.{count_of-exact}
use Rattle.peg_nodes.proofs.ChangeLemmas.{nodes_of-truncated, KeepsCutsUpTo-truncated, IsCut-popped, popped_again}
use Rattle.peg_nodes.proofs.linked_nodes.LinkedNodes.truncate.Goals as goal

pub loop-self-preserved : goal.loop-self-preserved
loop-self-preserved c =
    let now = c.loop-self.self in
    let many : c.args.count < length (nodes_of now) =
    let counted = c.self.invariant.counted in
    rw (← c.self.view_is) (omega (arith, count_of-exact c.self.inside.stored.items c.self.inside.items.items c.self.invariant.links)) in
    record {
      stored = ap (λ (nodes : Linked). nodes.stored) c.pop_item.ensures ∙ c.loop-self.invariant.stored;
      items = popped_again c.args.self.now now c.pop_item.new.self c.loop-self.invariant.items c.pop_item.ensures;
      cut = subst (λ (nodes : Linked). IsCut nodes c.args.count) (sym c.pop_item.ensures)
          (IsCut-popped now c.args.count c.loop-self.invariant.cut many);
    }

pub returns-clause-nodes : goal.returns-clause-nodes
returns-clause-nodes c =
    let few : length (nodes_of c.loop-self.self) ≤ c.args.count =
    let counted = c.self.invariant.counted in
    rw (← c.self.view_is) (omega (arith, count_of-exact c.self.inside.stored.items c.self.inside.items.items c.self.invariant.links)) in
    nodes_of-truncated c.args.self.now c.loop-self.self c.args.count c.loop-self.invariant.stored
    c.loop-self.invariant.items c.loop-self.invariant.cut few

pub returns-clause-cuts : goal.returns-clause-cuts
returns-clause-cuts c =
    KeepsCutsUpTo-truncated c.args.self.now c.loop-self.self c.args.count c.loop-self.invariant.stored
    c.loop-self.invariant.items c.loop-self.invariant.cut
