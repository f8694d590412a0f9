use Rattle.std.proofs.Common.{◌≡◌, ◌∙◌, ℕ, Bool, List, ap, length, subst, sym}
use Rattle.peg_explain.specs.Explanations.{AreRestsBy, expected_items, facts_by_blame, left_out_spacing}
use Rattle.peg_explain.specs.Names.{outermost_rules}
use Rattle.peg_explain.specs.Reports.{named_position}
use Rattle.peg_explain.specs.declared.names.Rest.{Rest}
use Rattle.peg_explain.proofs.NamingLemmas.{named-by_style}
use Rattle.peg_explain.proofs.explainer.Explainer.expected_by_blame.Goals as goal

pub returns-clause-items : goal.returns-clause-items
returns-clause-items c rules start blames same named is =
    let text : List ℕ = c.args.text.now in
    let outcome = c.args.answer.now.outcome in
    let style = c.args.self.now.style in
    let rests : List Rest = c.in_ok-rests.rests.items in
    let flags : List Bool = c.in_ok-spacing.spacing.items in
    let spacing : flags ≡ left_out_spacing rules style outcome = c.in_ok-spacing.ensures rules blames same in
    let here : c.deref-3.result.now ≡ left_out_spacing rules style outcome = c.deref-3.ensures.value ∙ spacing in
    let place = named_position outcome.result outcome.far in (
      rests,
      subst (λ (b : Bool). AreRestsBy b rules (left_out_spacing rules style outcome) text start is.blame.calls place rests)
          (named-by_style style (length text) outcome (sym c.if-is_whole_match.ensures) c.if-not-are_items_expected.ensures)
          (subst (λ (l : List Bool). AreRestsBy style.uses_names rules l text start is.blame.calls place rests)
          (c.deref.ensures.value ∙ spacing)
          (c.in_ok-rests.ensures.rests rules start is.blame blames same named is.is_blame)),
      c.in_ok-rules.ensures.rules ∙ ap outermost_rules c.deref-2.ensures.value,
      λ differs. c.in_ok-items.ensures.items rules blames
          ∙ (λ i. expected_items (facts_by_blame rules (here i) (c.deref-4.ensures.value i)) outcome),
    )
