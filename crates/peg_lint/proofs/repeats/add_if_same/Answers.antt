use Rattle.std.proofs.Common.{◌∷◌, map, Some, sym, ap, subst}
use Rattle.peg_bytes.specs.Extent.{extent}
use Rattle.peg_grammar.specs.Written.{form_of}
use Rattle.peg_semantics.specs.Form.{Choice, forms}
use Rattle.peg_lint.proofs.ChoiceLemmas.{before}
use Rattle.peg_lint.proofs.FileLemmas.{KeepsTrue-push}
use Rattle.peg_lint.proofs.SameLemmas.{same-results}
use Rattle.peg_lint.specs.Linting.{KeepsTrue}
use Rattle.peg_lint.specs.Warnings.{IsSameAlternative}
use Rattle.peg_lint.specs.declared.warning.Warning.{Warning}
use Rattle.peg_lint.specs.declared.warning.WarningKind.TheVariants as kind
use Rattle.peg_lint.proofs.repeats.add_if_same.Goals as goal

pub returns : goal.returns
returns c = λ rules span part.
    let first = form_of c.args.first.now in
    let rest = forms (map form_of c.args.rest.now) in
    let items = c.args.first.now ∷ c.args.rest.now in
    let earlier = c.alternative_at-earlier.result.now in
    let later = c.alternative_at-later.result.now in
    let w : Warning = record {
      kind = kind.SameAlternative;
      rule = c.args.rule;
      span = c.span_of.result;
      by = Some c.span_of-2.result;
    } in
    let says : IsSameAlternative rules c.args.rule (extent c.span_of.result) (Some (extent c.span_of-2.result)) = (
      Choice first rest span,
      form_of earlier,
      form_of later,
      part,
      before items c.args.one.number c.args.other.number earlier later c.if-one-other-2.false
          c.alternative_at-earlier.ensures c.alternative_at-later.ensures,
      sym c.span_of.ensures,
      ap Some (sym c.span_of-2.ensures),
      same-results rules (form_of earlier) (form_of later) (c.is_same.ensures c.if-not-is_same.false),
    ) in
    subst (KeepsTrue rules c.args.found.now.items) (sym c.in_ok-push.ensures.items)
    (KeepsTrue-push rules c.args.found.now.items w (λ start. says))
