use Rattle.std.proofs.Common.{◌+◌, ◌++◌, drop, map, sym, ap, ◌∙◌, arith, append_assoc}
use Rattle.std.proofs.lemmas.List.{map-append}
use Rattle.peg_diagnostics.specs.ItemKinds.{kind_of}
use Rattle.peg_diagnostics.specs.Items.{forms_of_items, item_forms}
use Rattle.peg_grammar.specs.GrammarRules.{rules_in}
use Rattle.peg_grammar.specs.Written.{form_of}
use Rattle.peg_diagnostics.proofs.Drops.{forms-of-drop}
use Rattle.peg_diagnostics.proofs.kinds.item_kinds.Goals as goal

pub loop-rule-preserved : goal.loop-rule-preserved
loop-rule-preserved c =
    let rules = rules_in c.args.grammar.now in
    let own = item_forms (form_of c.body.result.now) in
    let later = forms_of_items (drop (c.loop-rule.rule + 1) rules) in
    ap (λ l. l ++ map kind_of later) c.in_ok-add_kinds.ensures
    ∙ append_assoc c.loop-rule.kinds.items (map kind_of own) (map kind_of later)
    ∙ ap (λ l. c.loop-rule.kinds.items ++ l) (sym (map-append kind_of own later))
    ∙ ap (λ l. c.loop-rule.kinds.items ++ map kind_of l)
    (sym (forms-of-drop rules c.loop-rule.rule (form_of c.body.result.now)
    (omega (arith, c.loop-rule-test.true, c.rules-rule-end.ensures.count))
    c.body.ensures))
    ∙ c.loop-rule.invariant
