use Rattle.std.proofs.Common.{◌+◌, ◌++◌, drop, map, sym, ap, ◌∙◌, arith, append_assoc}
use Rattle.peg_bytes.specs.Extent.{extent}
use Rattle.peg_diagnostics.specs.Items.{item_extents, extents_of_items}
use Rattle.peg_grammar.specs.GrammarRules.{rules_in}
use Rattle.peg_grammar.specs.Written.{form_of}
use Rattle.peg_diagnostics.proofs.Drops.{extents-drop}
use Rattle.peg_diagnostics.proofs.spans.item_spans.Goals as goal

pub loop-rule-preserved : goal.loop-rule-preserved
loop-rule-preserved c =
    let rules = rules_in c.args.grammar.now in
    let body = form_of c.body.result.now in
    let later = extents_of_items (drop (c.loop-rule.rule + 1) rules) in
    ap (λ l. l ++ later) c.in_ok-add_spans.ensures
    ∙ append_assoc (map extent c.loop-rule.spans.items) (item_extents body) later
    ∙ ap (λ l. map extent c.loop-rule.spans.items ++ l)
    (sym (extents-drop rules c.loop-rule.rule body
    (omega (arith, c.loop-rule-test.true, c.rules-rule-end.ensures.count))
    c.body.ensures))
    ∙ c.loop-rule.invariant
