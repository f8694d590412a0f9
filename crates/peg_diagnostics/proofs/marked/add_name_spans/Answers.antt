use Rattle.std.proofs.Common.{[], ◌+◌, ◌∷◌, ◌++◌, map, sym, ap, ◌∙◌, arith, append_assoc, drop}
use Rattle.std.proofs.lemmas.List.{map-append}
use Rattle.peg_bytes.specs.Extent.{extent}
use Rattle.peg_grammar.specs.GrammarRules.{rules_in}
use Rattle.peg_semantics.specs.Rules.{Rule}
use Rattle.peg_diagnostics.proofs.MarkBounds.{dropped_rule, span_at}
use Rattle.peg_diagnostics.proofs.marked.add_name_spans.Goals as goal

pub rules-preserved : goal.rules-preserved
rules-preserved c =
    let rules = rules_in c.args.grammar.now in
    let i = c.rules.rule in
    let next = dropped_rule rules i (omega (arith, c.rules-test.true, c.rules-rule-end.ensures.count)) in
    let later = map (λ (rule : Rule). rule.span) (drop (i + 1) rules) in
    let so_far = map extent c.rules.spans.items in
    let here = span_at rules i next.0 (extent c.name_span.result) next.1 c.name_span.ensures in
    ap (λ l. map extent l ++ later) c.in_ok-push.ensures.items
    ∙ ap (λ l. l ++ later) (map-append extent c.rules.spans.items (c.name_span.result ∷ []))
    ∙ append_assoc so_far (extent c.name_span.result ∷ []) later
    ∙ ap (λ span. so_far ++ span ∷ later) (sym here)
    ∙ ap (λ l. so_far ++ map (λ (rule : Rule). rule.span) l) (sym next.2)
    ∙ c.rules.invariant
