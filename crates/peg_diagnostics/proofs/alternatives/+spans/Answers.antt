use Rattle.std.proofs.Common.{[], ◌∷◌, ◌+◌, ◌++◌, map, sym, ap, ◌∙◌, arith, append_assoc, append-nil, drop}
use Rattle.std.proofs.lemmas.List.{map-append}
use Rattle.peg_bytes.specs.Extent.{extent}
use Rattle.peg_diagnostics.specs.Diagnostic.{form_extent}
use Rattle.peg_diagnostics.specs.Marked.{alternative_extents, alternative_extents_of_all, alternative_extents_of_each}
use Rattle.peg_diagnostics.proofs.MarkLoops.{one_more_extent}
use Rattle.peg_grammar.specs.Written.{form_of}
use Rattle.peg_grammar.proofs.LoopLemmas.{forms-drop, forms-drop_all}
use Rattle.peg_semantics.specs.Form.{forms}
use Rattle.peg_diagnostics.proofs.alternatives.+spans.Goals as goal

pub add_all_spans-loop-item-preserved : goal.add_all_spans-loop-item-preserved
add_all_spans-loop-item-preserved t c =
    let items = c.args.items.now in
    let later = alternative_extents_of_all (forms (drop (c.loop-item.item-index + 1) (map form_of items))) in
    ap (λ l. l ++ later) c.in_ok-add_spans.ensures
    ∙ append_assoc (map extent c.loop-item.spans.items) (alternative_extents (form_of c.item-item.result)) later
    ∙ ap (λ l. map extent c.loop-item.spans.items ++ alternative_extents_of_all l)
    (sym (forms-drop form_of items c.loop-item.item-index c.item-item.result (omega arith) c.item-item.is))
    ∙ c.loop-item.invariant

pub add_all_spans-returns : goal.add_all_spans-returns
add_all_spans-returns t c =
    sym (append-nil (map extent c.loop-item.spans.items))
    ∙ ap (λ l. map extent c.loop-item.spans.items ++ alternative_extents_of_all l)
    (sym (forms-drop_all form_of c.args.items.now c.loop-item.item-index c.loop-item-test.false))
    ∙ c.loop-item.invariant

pub add_each_span-loop-item-preserved : goal.add_each_span-loop-item-preserved
add_each_span-loop-item-preserved t c =
    let items = c.args.items.now in
    let item = form_of c.item-item.result in
    let later = alternative_extents_of_each (forms (drop (c.loop-item.item-index + 1) (map form_of items))) in
    one_more_extent (map extent c.loop-item.spans.items) (alternative_extents item) later
    (map extent c.push.new.self.items) (map extent c.add_spans.new.spans.items) (form_extent item)
    (ap (map extent) c.in_ok-push.ensures.items
    ∙ map-append extent c.loop-item.spans.items (c.span_of.result ∷ [])
    ∙ ap (λ e. map extent c.loop-item.spans.items ++ e ∷ []) c.span_of.ensures)
    c.in_ok-add_spans.ensures
    ∙ ap (λ l. map extent c.loop-item.spans.items ++ alternative_extents_of_each l)
    (sym (forms-drop form_of items c.loop-item.item-index c.item-item.result (omega arith) c.item-item.is))
    ∙ c.loop-item.invariant
