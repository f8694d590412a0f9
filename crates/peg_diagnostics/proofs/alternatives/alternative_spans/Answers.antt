use Rattle.std.proofs.Common.{◌+◌, ◌++◌, drop, map, sym, ap, ◌∙◌, arith, append_assoc}
use Rattle.peg_bytes.specs.Extent.{extent}
use Rattle.peg_diagnostics.specs.Marked.{alternative_extents, extents_of_alternatives}
use Rattle.peg_grammar.specs.GrammarRules.{rules_in}
use Rattle.peg_grammar.specs.Written.{form_of}
use Rattle.peg_diagnostics.proofs.Drops.{dropped}
use Rattle.peg_diagnostics.proofs.alternatives.alternative_spans.Goals as goal

pub loop-rule-preserved : goal.loop-rule-preserved
loop-rule-preserved c =
    let rules = rules_in c.args.grammar.now in
    let body = form_of c.body.result.now in
    let later = extents_of_alternatives (drop (c.loop-rule.rule + 1) rules) in
    let next = dropped rules c.loop-rule.rule body
    (omega (arith, c.loop-rule-test.true, c.rules-rule-end.ensures.count)) c.body.ensures in
    ap (λ l. l ++ later) c.in_ok-add_spans.ensures
    ∙ append_assoc (map extent c.loop-rule.spans.items) (alternative_extents body) later
    ∙ ap (λ l. map extent c.loop-rule.spans.items ++ l)
    (sym (ap extents_of_alternatives next.2 ∙ ap (λ e. alternative_extents e ++ later) next.1))
    ∙ c.loop-rule.invariant
