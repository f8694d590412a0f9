use Rattle.std.proofs.Common.{ℕ, ◌-◌, length, arith, ap, ◌∙◌}
use Rattle.std.proofs.lemmas.List.{length_push}
use Rattle.peg_bytes.specs.declared.span.Span.{Span}
use Rattle.peg_tree.specs.Rows.{Row}
use Rattle.peg_nodes.specs.Expansion.{images_of, expand}
use Rattle.peg_nodes.specs.OpenNodes.{IsOpenAt}
use Rattle.peg_nodes.specs.Invariant.{opened_from}
use Rattle.peg_nodes.proofs.CountLemmas.{count_of-exact}
use Rattle.peg_nodes.proofs.ChangeLemmas.{popped_place, newest_item, IsSound-closed, nodes_of-closed, IsItemAt-closed}
use Rattle.peg_nodes.proofs.ChangeLemmas.{KeepsCutsUpTo-closed}
use Rattle.peg_nodes.proofs.linked_nodes.LinkedNodes.close.Goals as goal

abbrev row_with : ℕ → Span → ℕ → Row
row_with rule span size = record { rule = rule; start = span.start; end = span.end; size = size }

pub overflow_sub-size : goal.overflow_sub-size
overflow_sub-size c =
    let is_open = rw (← c.self.view_is) at c.requires.1 in
    let popped = popped_place _ _ _ _ _ _ _ c.self.invariant is_open c.in-Some.ensures.items in
    let before = popped.before in
    let fewer = popped.fewer in
    omega arith

pub index_mut-requires : goal.index_mut-requires
index_mut-requires c =
    let is_open = rw (← c.self.view_is) at c.requires.1 in
    let popped = popped_place _ _ _ _ _ _ _ c.self.invariant is_open c.in-Some.ensures.items in
    let within = popped.within in
    omega (arith, c.self.inside.items.ok.0)

pub invariant_of-self : goal.invariant_of-self
invariant_of-self c =
    let is_open = rw (← c.self.view_is) at c.requires.1 in
    let popped = popped_place _ _ _ _ _ _ _ c.self.invariant is_open c.in-Some.ensures.items in
    let before = popped.before in
    let fewer = popped.fewer in
    IsSound-closed _ _ _ _ _ _ _ _ c.self.invariant is_open c.in-Some.ensures.items (omega arith)

pub unreachable-requires : goal.unreachable-requires
unreachable-requires c =
    let is_open = rw (← c.self.view_is) at c.requires.1 in
    let newest = newest_item _ _ _ _ _ c.self.invariant is_open in
    let some = ap length newest.places in
    let last =
    length_push (opened_from 0 0 newest.first) (record { item = length newest.first; before = c.requires.0 }) in
    omega (arith, c.in-None.ensures.cases.0, c.self.inside.opened.ok.0)

pub returns-clause-nodes : goal.returns-clause-nodes
returns-clause-nodes c =
    let rows = expand (images_of c.self.inside.stored.items) c.self.inside.items.items in
    rw (← c.self.view_is) (λ (at : ℕ) (is_open : IsOpenAt rows at).
    let popped = popped_place _ _ _ _ _ _ _ c.self.invariant is_open c.in-Some.ensures.items in
    let total = c.self.invariant.counted ∙ count_of-exact _ _ c.self.invariant.links in
    let size = ap (λ (n : ℕ). n - c.in-Some.open.before) total ∙ ap (λ (n : ℕ). length rows - n) popped.before in
    nodes_of-closed _ _ _ _ _ _ _ c.args.span _ _ c.self.invariant is_open c.in-Some.ensures.items
    (ap (row_with c.args.rule c.args.span) size))

pub returns-clause-place : goal.returns-clause-place
returns-clause-place c =
    rw (← c.self.view_is) (λ (at : ℕ) (is_open : IsOpenAt (expand (images_of c.self.inside.stored.items) c.self.inside.items.items) at).
    IsItemAt-closed _ _ _ _ _ _ (popped_place _ _ _ _ _ _ _ c.self.invariant is_open c.in-Some.ensures.items))

pub returns-clause-cuts : goal.returns-clause-cuts
returns-clause-cuts c =
    rw (← c.self.view_is) (λ (at : ℕ) (is_open : IsOpenAt (expand (images_of c.self.inside.stored.items) c.self.inside.items.items) at).
    KeepsCutsUpTo-closed _ _ _ _ _ _ (popped_place _ _ _ _ _ _ _ c.self.invariant is_open c.in-Some.ensures.items))
