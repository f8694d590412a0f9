use Rattle.std.proofs.Common.{◌⊎◌, not, ap, ◌∙◌}
use Rattle.peg_bytes.specs.Extent.{extent}
use Rattle.peg_grammar.proofs.WrittenForms.{form_of-Optional, form_of-Star, form_of-And, form_of-Not}
use Rattle.peg_grammar.specs.Written.{form_of}
use Rattle.peg_semantics.specs.Form as form
use Rattle.peg_semantics.specs.Form.{Form}
use Rattle.peg_lint.specs.Excluded.{CannotFail, CannotMatch}
use Rattle.peg_lint.specs.Warnings.{IsWithoutUse}
use Rattle.peg_lint.proofs.OperatorLemmas.{either-false, either-true, of-operator, only-false, only-true}
use Rattle.peg_lint.proofs.findings.is_without_use.Goals as goal

pub returns-in-Star : goal.returns-in-Star
returns-in-Star c = λ rules e on outcome.
    let part = form_of c.in-Star.part.value in
    of-operator (form_of c.args.expr.now) (form.Star part (extent c.in-Star.span)) part e c.never_matches-none_matches.result
    (CannotMatch rules) (IsWithoutUse rules) (ap form_of c.in-Star.is ∙ form_of-Star c.in-Star.part c.in-Star.span)
    (λ same. same) (c.never_matches-none_matches.ensures rules e outcome) (λ h. h) (λ h. h) on

pub returns-then-none_matches : goal.returns-then-none_matches
returns-then-none_matches c = λ rules e on outcome.
    let part = form_of c.in-Optional.part.value in
    of-operator (form_of c.args.expr.now) (form.Optional part (extent c.in-Optional.span)) part e c.never_matches-none_matches.result
    (λ (f : Form). CannotMatch rules f ⊎ CannotFail rules f) (IsWithoutUse rules)
    (ap form_of c.in-Optional.is ∙ form_of-Optional c.in-Optional.part c.in-Optional.span) (λ same. same)
    (either-true c.never_matches-none_matches.result c.never_fails-none_fails.result (CannotMatch rules e) (CannotFail rules e) (c.never_matches-none_matches.ensures rules e outcome)
    (c.never_fails-none_fails.ensures rules e outcome) c.if-none_matches.true) (λ h. h) (λ h. h) on

pub returns-else-none_matches : goal.returns-else-none_matches
returns-else-none_matches c = λ rules e on outcome.
    let part = form_of c.in-Optional.part.value in
    of-operator (form_of c.args.expr.now) (form.Optional part (extent c.in-Optional.span)) part e c.never_fails-none_fails.result
    (λ (f : Form). CannotMatch rules f ⊎ CannotFail rules f) (IsWithoutUse rules)
    (ap form_of c.in-Optional.is ∙ form_of-Optional c.in-Optional.part c.in-Optional.span) (λ same. same)
    (either-false c.never_matches-none_matches.result c.never_fails-none_fails.result (CannotMatch rules e) (CannotFail rules e) (c.never_matches-none_matches.ensures rules e outcome)
    (c.never_fails-none_fails.ensures rules e outcome) c.if-none_matches.false) (λ h. h) (λ h. h) on

pub returns-then-none_fails : goal.returns-then-none_fails
returns-then-none_fails c = λ rules e on outcome.
    let part = form_of c.in-And.part.value in
    of-operator (form_of c.args.expr.now) (form.And part (extent c.in-And.span)) part e (not c.never_matches-none_matches.result)
    (λ (f : Form). CannotFail rules f × ¬ CannotMatch rules f) (IsWithoutUse rules)
    (ap form_of c.in-And.is ∙ form_of-And c.in-And.part c.in-And.span) (λ same. same)
    (only-true c.never_fails-none_fails.result c.never_matches-none_matches.result (CannotFail rules e) (CannotMatch rules e) (c.never_fails-none_fails.ensures rules e outcome)
    (c.never_matches-none_matches.ensures rules e outcome) c.if-none_fails.true) (λ h. h) (λ h. h) on

pub returns-else-none_fails : goal.returns-else-none_fails
returns-else-none_fails c = λ rules e on outcome.
    let part = form_of c.in-And.part.value in
    of-operator (form_of c.args.expr.now) (form.And part (extent c.in-And.span)) part e c.never_fails-none_fails.result
    (λ (f : Form). CannotFail rules f × ¬ CannotMatch rules f) (IsWithoutUse rules)
    (ap form_of c.in-And.is ∙ form_of-And c.in-And.part c.in-And.span) (λ same. same)
    (only-false c.never_fails-none_fails.result c.never_matches-none_matches.result (CannotFail rules e) (CannotMatch rules e) (c.never_fails-none_fails.ensures rules e outcome)
    (c.never_matches-none_matches.ensures rules e outcome) c.if-none_fails.false) (λ h. h) (λ h. h) on

pub returns-then-none_matches-2 : goal.returns-then-none_matches-2
returns-then-none_matches-2 c = λ rules e on outcome.
    let part = form_of c.in-Not.part.value in
    of-operator (form_of c.args.expr.now) (form.Not part (extent c.in-Not.span)) part e (not c.never_fails-none_fails.result)
    (λ (f : Form). CannotMatch rules f × ¬ CannotFail rules f) (IsWithoutUse rules)
    (ap form_of c.in-Not.is ∙ form_of-Not c.in-Not.part c.in-Not.span) (λ same. same)
    (only-true c.never_matches-none_matches.result c.never_fails-none_fails.result (CannotMatch rules e) (CannotFail rules e) (c.never_matches-none_matches.ensures rules e outcome)
    (c.never_fails-none_fails.ensures rules e outcome) c.if-none_matches-2.true) (λ h. h) (λ h. h) on

pub returns-else-none_matches-2 : goal.returns-else-none_matches-2
returns-else-none_matches-2 c = λ rules e on outcome.
    let part = form_of c.in-Not.part.value in
    of-operator (form_of c.args.expr.now) (form.Not part (extent c.in-Not.span)) part e c.never_matches-none_matches.result
    (λ (f : Form). CannotMatch rules f × ¬ CannotFail rules f) (IsWithoutUse rules)
    (ap form_of c.in-Not.is ∙ form_of-Not c.in-Not.part c.in-Not.span) (λ same. same)
    (only-false c.never_matches-none_matches.result c.never_fails-none_fails.result (CannotMatch rules e) (CannotFail rules e) (c.never_matches-none_matches.ensures rules e outcome)
    (c.never_fails-none_fails.ensures rules e outcome) c.if-none_matches-2.false) (λ h. h) (λ h. h) on
