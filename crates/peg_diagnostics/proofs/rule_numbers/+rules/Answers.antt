use Rattle.std.proofs.Common.{List, ap₂, ◌+◌, ◌++◌, map, sym, ap, ◌∙◌, arith, append-nil, drop, replicate}
use Rattle.std.proofs.lemmas.Result.{on_ok_weaker}
use Rattle.peg_diagnostics.specs.Items.{items, items_of_all}
use Rattle.peg_grammar.specs.Written.{form_of}
use Rattle.peg_grammar.specs.declared.expr.Expr.{Expr}
use Rattle.peg_grammar.proofs.LoopLemmas.{forms-drop, forms-drop_all}
use Rattle.peg_grammar.proofs.WrittenForms.{form_of-Choice}
use Rattle.peg_semantics.specs.Form.{Form, forms}
use Rattle.peg_diagnostics.proofs.RuleCopies.{copies_more}
use Rattle.peg_diagnostics.proofs.rule_numbers.+rules.Goals as goal

pub add_rule-returns-in_ok-add_rule-in-Choice : goal.add_rule-returns-in_ok-add_rule-in-Choice
add_rule-returns-in_ok-add_rule-in-Choice t c =
    let old = c.args.rules.now.items in
    let rule = c.args.rule in
    let first = items (form_of c.deref-in-Choice.result.now) in
    let rest = items_of_all (forms (map form_of c.deref-in-Choice-2.result.now)) in
    on_ok_weaker c.add_rule_of_all-in-Choice.result (λ is. is
    ∙ ap (λ l. l ++ replicate rest rule) c.in_ok-add_rule-in-Choice.ensures
    ∙ copies_more old first rest rule
    ∙ ap₂ (λ (a : Expr) (b : List Expr). old ++ replicate (items (form_of a) + items_of_all (forms (map form_of b))) rule)
    c.deref-in-Choice.ensures c.deref-in-Choice-2.ensures.value
    ∙ ap (λ (e : Form). old ++ replicate (items e) rule)
    (sym (form_of-Choice c.in-Choice.first c.in-Choice.rest c.in-Choice.span) ∙ ap form_of (sym c.in-Choice.is)))
    c.add_rule_of_all-in-Choice.ensures

pub add_rule_of_all-loop-item-preserved : goal.add_rule_of_all-loop-item-preserved
add_rule_of_all-loop-item-preserved t c =
    let all = c.args.items.now in
    let e = form_of c.item-item.result in
    let later = items_of_all (forms (drop (c.loop-item.item-index + 1) (map form_of all))) in
    ap (λ l. l ++ replicate later c.args.rule) c.in_ok-add_rule.ensures
    ∙ copies_more c.loop-item.rules.items (items e) later c.args.rule
    ∙ ap (λ l. c.loop-item.rules.items ++ replicate (items_of_all l) c.args.rule)
    (sym (forms-drop form_of all c.loop-item.item-index c.item-item.result (omega arith) c.item-item.is))
    ∙ c.loop-item.invariant

pub add_rule_of_all-returns : goal.add_rule_of_all-returns
add_rule_of_all-returns t c =
    sym (append-nil c.loop-item.rules.items)
    ∙ ap (λ l. c.loop-item.rules.items ++ replicate (items_of_all l) c.args.rule)
    (sym (forms-drop_all form_of c.args.items.now c.loop-item.item-index c.loop-item-test.false))
    ∙ c.loop-item.invariant
