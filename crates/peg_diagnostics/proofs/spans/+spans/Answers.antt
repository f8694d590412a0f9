use Rattle.std.proofs.Common.{◌+◌, ◌++◌, map, sym, ap, ◌∙◌, arith, append_assoc, append-nil, drop}
use Rattle.peg_bytes.specs.Extent.{extent}
use Rattle.peg_diagnostics.specs.Items.{item_extents, item_extents_of_all}
use Rattle.peg_grammar.specs.Written.{form_of}
use Rattle.peg_grammar.proofs.LoopLemmas.{forms-drop, forms-drop_all}
use Rattle.peg_semantics.specs.Form.{forms}
use Rattle.peg_diagnostics.proofs.spans.+spans.Goals as goal

pub add_all_spans-loop-item-preserved : goal.add_all_spans-loop-item-preserved
add_all_spans-loop-item-preserved t c =
    let items = c.args.items.now in
    let later = item_extents_of_all (forms (drop (c.loop-item.item-index + 1) (map form_of items))) in
    ap (λ l. l ++ later) c.in_ok-add_spans.ensures
    ∙ append_assoc (map extent c.loop-item.spans.items) (item_extents (form_of c.item-item.result)) later
    ∙ ap (λ l. map extent c.loop-item.spans.items ++ item_extents_of_all l)
    (sym (forms-drop form_of items c.loop-item.item-index c.item-item.result (omega arith) c.item-item.is))
    ∙ c.loop-item.invariant

pub add_all_spans-returns : goal.add_all_spans-returns
add_all_spans-returns t c =
    sym (append-nil (map extent c.loop-item.spans.items))
    ∙ ap (λ l. map extent c.loop-item.spans.items ++ item_extents_of_all l)
    (sym (forms-drop_all form_of c.args.items.now c.loop-item.item-index c.loop-item-test.false))
    ∙ c.loop-item.invariant
