use Rattle.std.proofs.Common.{◌≡◌, ◌∙◌, map}
use Rattle.peg_tree.specs.Rows.{row_of}
use Rattle.peg_nodes.specs.Expansion.{images_of, expand}
use Rattle.peg_nodes.specs.declared.item.Item.TheVariants.{Node}
use Rattle.peg_nodes.proofs.FlatLemmas.{IsSound-flat, KeepsCuts-flat, expand-flat}
use Rattle.peg_nodes.proofs.linked_nodes.LinkedNodes.flatten.Goals as goal

pub invariant_of-self : goal.invariant_of-self
invariant_of-self c =
    let nodes = c.self.inside in
    let same : map row_of c.in_ok-flat.flat.items ≡ expand (images_of nodes.stored.items) nodes.items.items =
    rw (c.deref.ensures.value, c.deref-2.ensures.value) at c.in_ok-flat.ensures in
    let items : c.in_ok-self-inside.field-0.items ≡ map Node c.in_ok-flat.flat.items =
    rw c.deref-3.ensures.value at c.in_ok-self-inside.ensures in
    rw (items, c.clear.ensures.items, c.flatten_places.ensures)
    (IsSound-flat nodes.items.items nodes.stored.items nodes.opened.items nodes.count c.in_ok-flat.flat.items c.self.invariant same)

pub returns-clause-nodes : goal.returns-clause-nodes
returns-clause-nodes c =
    let nodes = c.self.inside in
    let same : map row_of c.in_ok-flat.flat.items ≡ expand (images_of nodes.stored.items) nodes.items.items =
    rw (c.deref.ensures.value, c.deref-2.ensures.value) at c.in_ok-flat.ensures in
    let items : c.in_ok-self-inside.field-0.items ≡ map Node c.in_ok-flat.flat.items =
    rw c.deref-3.ensures.value at c.in_ok-self-inside.ensures in
    rw (← c.self.view_is, items) (expand-flat (images_of c.clear.new.self.items) c.in_ok-flat.flat.items ∙ same)

pub returns-clause-cuts : goal.returns-clause-cuts
returns-clause-cuts c =
    let nodes = c.self.inside in
    let same : map row_of c.in_ok-flat.flat.items ≡ expand (images_of nodes.stored.items) nodes.items.items =
    rw (c.deref.ensures.value, c.deref-2.ensures.value) at c.in_ok-flat.ensures in
    let items : c.in_ok-self-inside.field-0.items ≡ map Node c.in_ok-flat.flat.items =
    rw c.deref-3.ensures.value at c.in_ok-self-inside.ensures in
    rw (← c.self.view_is, items, c.clear.ensures.items)
    (KeepsCuts-flat nodes.items.items nodes.stored.items c.in_ok-flat.flat.items same)
