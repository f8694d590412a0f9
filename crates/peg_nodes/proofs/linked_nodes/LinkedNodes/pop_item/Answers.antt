use Rattle.std.proofs.Common.{◌∷◌, [], ◌++◌, List, ap, subst, ◌∙◌}
use Rattle.peg_nodes.specs.Invariant.{IsSound}
use Rattle.peg_nodes.specs.declared.item.Item.{Item}
use Rattle.peg_nodes.proofs.ChangeLemmas.{IsSound-popped_node, IsSound-popped_link}
use Rattle.peg_nodes.proofs.linked_nodes.LinkedNodes.pop_item.Goals as goal

pub overflow_sub-self : goal.overflow_sub-self
overflow_sub-self c =
    let nodes = c.self.inside in
    let parts =
    c.in-Some-Node.ensures.items
    ∙ ap (λ (item : Item). c.pop.new.self.items ++ item ∷ []) c.in-Some-Node.field-0-is in
    (IsSound-popped_node c.pop.new.self.items nodes.stored.items nodes.opened.items nodes.count c.in-Some-Node.node
    (subst (λ (items : List Item). IsSound items nodes.stored.items nodes.opened.items nodes.count) parts c.self.invariant)).0

pub invariant_of-self : goal.invariant_of-self
invariant_of-self c =
    let nodes = c.self.inside in
    let parts =
    c.in-Some-Node.ensures.items
    ∙ ap (λ (item : Item). c.pop.new.self.items ++ item ∷ []) c.in-Some-Node.field-0-is in
    rw c.pop_place.ensures
    (IsSound-popped_node c.pop.new.self.items nodes.stored.items nodes.opened.items nodes.count c.in-Some-Node.node
    (subst (λ (items : List Item). IsSound items nodes.stored.items nodes.opened.items nodes.count) parts c.self.invariant)).1

pub overflow_sub-self-in-Some-Stored : goal.overflow_sub-self-in-Some-Stored
overflow_sub-self-in-Some-Stored c =
    let nodes = c.self.inside in
    let parts =
    c.in-Some-Stored.ensures.items
    ∙ ap (λ (item : Item). c.pop.new.self.items ++ item ∷ []) c.in-Some-Stored.field-0-is in
    (IsSound-popped_link c.pop.new.self.items nodes.stored.items nodes.opened.items nodes.count c.in-Some-Stored.link
    (subst (λ (items : List Item). IsSound items nodes.stored.items nodes.opened.items nodes.count) parts c.self.invariant)).0

pub invariant_of-self-in-Some-Stored : goal.invariant_of-self-in-Some-Stored
invariant_of-self-in-Some-Stored c =
    let nodes = c.self.inside in
    let parts =
    c.in-Some-Stored.ensures.items
    ∙ ap (λ (item : Item). c.pop.new.self.items ++ item ∷ []) c.in-Some-Stored.field-0-is in
    (IsSound-popped_link c.pop.new.self.items nodes.stored.items nodes.opened.items nodes.count c.in-Some-Stored.link
    (subst (λ (items : List Item). IsSound items nodes.stored.items nodes.opened.items nodes.count) parts c.self.invariant)).1
