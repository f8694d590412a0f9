use Rattle.std.proofs.Common.{◌≡◌, ◌+◌, ◌<◌, ◌∷◌, ◌++◌, ◌⊎◌, [], ℕ, ap, arith, inl, inr, map, slice_index_or, sym, ◌∙◌, take}
use Rattle.std.proofs.Math.Nat.{eq-or-lt_of_le}
use Rattle.std.proofs.Math.ListN.{get_or-append}
use Rattle.std.proofs.lemmas.List.{get_or_push, length-map, length-take}
use Rattle.peg_tree.specs.Rows.{row_of}
use Rattle.peg_tree.specs.Selected.{has_rule}
use Rattle.peg_tree.specs.SelectedNodes.{shown_count}
use Rattle.peg_tree.proofs.SelectedLemmas.{shown_count-le, shown_count-more}
use Rattle.peg_tree.proofs.select.count_shown.Goals as goal

pub overflow_add-count : goal.overflow_add-count
overflow_add-count c =
    let shown = has_rule c.args.shown.now in
    let before = map row_of (take c.rows.row-index c.args.rows.now) in
    omega (arith, shown_count-le shown before, shown_count-le shown (row_of c.row-item.result ∷ []), length-map (take c.rows.row-index c.args.rows.now) row_of, length-take c.rows.row-index c.args.rows.now, c.rows.invariant.last, c.shown_nodes_at-count.ensures, c.rows-test.true)

pub rows-preserved : goal.rows-preserved
rows-preserved c =
    let shown = has_rule c.args.shown.now in
    let rows = c.args.rows.now in
    let index = c.rows.row-index in
    let more = shown_count-more shown rows index c.row-item.result c.rows-test.true c.row-item.is in
    let count = c.rows.count + c.shown_nodes_at-count.result in
    let last : count ≡ shown_count shown (map row_of (take (index + 1) rows)) =
    omega (arith, more, c.rows.invariant.last, c.shown_nodes_at-count.ensures) in
    let items = c.in_ok-push-2.ensures.items in
    let by : (at : ℕ) → (at ≡ index + 1) ⊎ (at < index + 1)
    → slice_index_or c.push-in-rows.new.self.items at 0 ≡ shown_count shown (map row_of (take at rows)) =
    λ at side. ap (λ l. slice_index_or l at 0) items
    ∙ elim side as (λ _. slice_index_or (c.rows.counts.items ++ count ∷ []) at 0 ≡ shown_count shown (map row_of (take at rows))) [
      | inl same ↦ get_or_push c.rows.counts.items count 0 at (omega (arith, same, c.rows.invariant.len)) ∙ last ∙ ap (λ n. shown_count shown (map row_of (take n rows))) (sym same)
      | inr less ↦ get_or-append c.rows.counts.items (count ∷ []) 0 at (omega (arith, less, c.rows.invariant.len)) ∙ c.rows.invariant.each at (omega (arith, less))
    ] in
    record {
      len = omega (arith, c.in_ok-push-2.ensures.len, c.rows.invariant.len);
      last = last;
      each = λ at less. by at (eq-or-lt_of_le less);
    }
