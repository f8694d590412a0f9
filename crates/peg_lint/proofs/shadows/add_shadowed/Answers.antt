use Rattle.std.proofs.Common.{◌+◌, ◌∷◌, map, Some, sym, ap, subst}
use Rattle.peg_bytes.specs.Extent.{extent}
use Rattle.peg_grammar.specs.GrammarRules.{rules_in}
use Rattle.peg_grammar.specs.Written.{form_of}
use Rattle.peg_semantics.specs.Form.{Choice, forms}
use Rattle.peg_lint.proofs.ChoiceLemmas.{before}
use Rattle.peg_lint.proofs.FileLemmas.{KeepsTrue-both, KeepsTrue-push}
use Rattle.peg_lint.specs.Linting.{KeepsTrue}
use Rattle.peg_lint.specs.Warnings.{IsShadowed}
use Rattle.peg_lint.specs.declared.warning.Warning.{Warning}
use Rattle.peg_lint.specs.declared.warning.WarningKind.TheVariants as kind
use Rattle.peg_lint.proofs.shadows.add_shadowed.Goals as goal

pub alternatives-preserved : goal.alternatives-preserved
alternatives-preserved c = λ n span known part.
    let rules = rules_in c.args.grammar.now in
    let first = form_of c.args.first.now in
    let rest = forms (map form_of c.args.rest.now) in
    let items = c.args.first.now ∷ c.args.rest.now in
    let number = c.alternatives.index + 1 in
    let later = c.alternative_at-later.result.now in
    let earlier = c.alternative_at-before.result.now in
    let found = c.alternatives.found.items in
    let w : Warning = record {
      kind = kind.Shadowed;
      rule = c.args.rule;
      span = c.span_of.result;
      by = Some c.span_of-in-alternatives.result;
    } in
    let says : IsShadowed rules c.args.rule (extent c.span_of.result) (Some (extent c.span_of-in-alternatives.result)) = (
      Choice first rest span,
      form_of earlier,
      form_of later,
      part,
      before items c.in-Some.earlier number earlier later c.in-Some.ensures.earlier
          c.alternative_at-before.ensures c.alternative_at-later.ensures,
      sym c.span_of.ensures,
      ap Some (sym c.span_of-in-alternatives.ensures),
      c.in-Some.ensures.fails n earlier later known c.alternative_at-before.ensures c.alternative_at-later.ensures,
    ) in
    KeepsTrue-both rules c.args.found.now.items found c.push.new.self.items (c.alternatives.invariant n span known part)
    (subst (KeepsTrue rules found) (sym c.in_ok-push.ensures.items) (KeepsTrue-push rules found w (λ start. says)))
