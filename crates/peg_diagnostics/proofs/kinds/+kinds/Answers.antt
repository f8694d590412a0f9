use Rattle.std.proofs.Common.{◌+◌, ◌++◌, map, sym, ap, ◌∙◌, arith, append_assoc, append-nil, drop}
use Rattle.std.proofs.lemmas.List.{map-append}
use Rattle.std.proofs.lemmas.Result.{IfOk-equal}
use Rattle.peg_diagnostics.specs.ItemKinds.{kind_of}
use Rattle.peg_diagnostics.specs.Items.{item_forms, item_forms_of_all}
use Rattle.peg_grammar.specs.Written.{form_of}
use Rattle.peg_grammar.proofs.LoopLemmas.{forms-drop, forms-drop_all}
use Rattle.peg_grammar.proofs.WrittenForms.{form_of-Choice}
use Rattle.peg_semantics.specs.Form.{forms}
use Rattle.peg_diagnostics.proofs.kinds.+kinds.Goals as goal

pub add_kinds-returns-in_ok-add_kinds-in-Choice : goal.add_kinds-returns-in_ok-add_kinds-in-Choice
add_kinds-returns-in_ok-add_kinds-in-Choice t c =
    let old = c.args.kinds.now.items in
    let own = item_forms (form_of c.in-Choice.first.value) in
    let later = item_forms_of_all (forms (map form_of c.in-Choice.rest.items)) in
    IfOk-equal c.add_all_kinds-in-Choice.result _ _ _ c.add_all_kinds-in-Choice.ensures
    (ap (λ l. c.add_kinds.new.kinds.items ++ map kind_of (item_forms_of_all (forms (map form_of l))))
    c.deref-in-Choice-2.ensures.value
    ∙ ap (λ l. l ++ map kind_of later) c.in_ok-add_kinds-in-Choice.ensures
    ∙ ap (λ e. (old ++ map kind_of (item_forms (form_of e))) ++ map kind_of later) c.deref-in-Choice.ensures
    ∙ append_assoc old (map kind_of own) (map kind_of later)
    ∙ ap (λ l. old ++ l) (sym (map-append kind_of own later))
    ∙ ap (λ e. old ++ map kind_of (item_forms e)) (sym (ap form_of c.in-Choice.is
    ∙ form_of-Choice c.in-Choice.first c.in-Choice.rest c.in-Choice.span)))

pub add_all_kinds-loop-item-preserved : goal.add_all_kinds-loop-item-preserved
add_all_kinds-loop-item-preserved t c =
    let items = c.args.items.now in
    let later = item_forms_of_all (forms (drop (c.loop-item.item-index + 1) (map form_of items))) in
    let own = item_forms (form_of c.item-item.result) in
    ap (λ l. l ++ map kind_of later) c.in_ok-add_kinds.ensures
    ∙ append_assoc c.loop-item.kinds.items (map kind_of own) (map kind_of later)
    ∙ ap (λ l. c.loop-item.kinds.items ++ l) (sym (map-append kind_of own later))
    ∙ ap (λ l. c.loop-item.kinds.items ++ map kind_of (item_forms_of_all l))
    (sym (forms-drop form_of items c.loop-item.item-index c.item-item.result (omega arith) c.item-item.is))
    ∙ c.loop-item.invariant

pub add_all_kinds-returns : goal.add_all_kinds-returns
add_all_kinds-returns t c =
    sym (append-nil c.loop-item.kinds.items)
    ∙ ap (λ l. c.loop-item.kinds.items ++ map kind_of (item_forms_of_all l))
    (sym (forms-drop_all form_of c.args.items.now c.loop-item.item-index c.loop-item-test.false))
    ∙ c.loop-item.invariant
