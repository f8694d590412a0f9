use Rattle.std.proofs.Common.{ap, ◌∙◌}
use Rattle.peg_bytes.specs.Extent.{extent}
use Rattle.peg_grammar.proofs.WrittenForms.{form_of-And, form_of-Not}
use Rattle.peg_grammar.specs.Written.{form_of}
use Rattle.peg_semantics.specs.Form as form
use Rattle.peg_lint.specs.Excluded.{CannotFail, CannotMatch}
use Rattle.peg_lint.specs.Warnings.{IsFailingPredicate}
use Rattle.peg_lint.proofs.OperatorLemmas.{of-operator}
use Rattle.peg_lint.proofs.findings.is_failing_predicate.Goals as goal

pub returns-in-And : goal.returns-in-And
returns-in-And c = λ rules e on outcome.
    let part = form_of c.in-And.part.value in
    of-operator (form_of c.args.expr.now) (form.And part (extent c.in-And.span)) part e c.never_matches.result
    (CannotMatch rules) (IsFailingPredicate rules) (ap form_of c.in-And.is ∙ form_of-And c.in-And.part c.in-And.span)
    (λ same. same) (c.never_matches.ensures rules e outcome) (λ h. h) (λ h. h) on

pub returns-in-Not : goal.returns-in-Not
returns-in-Not c = λ rules e on outcome.
    let part = form_of c.in-Not.part.value in
    of-operator (form_of c.args.expr.now) (form.Not part (extent c.in-Not.span)) part e c.never_fails.result
    (CannotFail rules) (IsFailingPredicate rules) (ap form_of c.in-Not.is ∙ form_of-Not c.in-Not.part c.in-Not.span)
    (λ same. same) (c.never_fails.ensures rules e outcome) (λ h. h) (λ h. h) on
