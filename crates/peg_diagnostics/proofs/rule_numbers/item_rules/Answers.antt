use Rattle.std.proofs.Common.{◌+◌, ◌++◌, drop, sym, ap, ◌∙◌, arith, append_assoc, replicate}
use Rattle.peg_diagnostics.specs.Items.{items, rules_of_items_from}
use Rattle.peg_grammar.specs.GrammarRules.{rules_in}
use Rattle.peg_grammar.specs.Written.{form_of}
use Rattle.peg_diagnostics.proofs.RuleCopies.{rules-drop}
use Rattle.peg_diagnostics.proofs.rule_numbers.item_rules.Goals as goal

pub loop-rule-preserved : goal.loop-rule-preserved
loop-rule-preserved c =
    let rules = rules_in c.args.grammar.now in
    let rule = c.loop-rule.rule in
    let body = form_of c.body.result.now in
    let later = rules_of_items_from (rule + 1) (drop (rule + 1) rules) in
    ap (λ l. l ++ later) c.in_ok-add_rule.ensures
    ∙ append_assoc c.loop-rule.rules.items (replicate (items body) rule) later
    ∙ ap (λ l. c.loop-rule.rules.items ++ l)
    (sym (rules-drop rules rule body (omega (arith, c.loop-rule-test.true, c.rules-rule-end.ensures.count)) c.body.ensures))
    ∙ c.loop-rule.invariant
