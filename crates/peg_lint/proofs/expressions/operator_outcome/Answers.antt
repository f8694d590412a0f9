use Rattle.std.proofs.Common.{◌≡◌, List, sym, ap, ◌∙◌, subst}
use Rattle.peg_bytes.specs.Extent.{extent}
use Rattle.peg_check.specs.Cans.{can_of}
use Rattle.peg_grammar.proofs.WrittenForms.{form_of-Optional, form_of-Star, form_of-Plus, form_of-Counted, form_of-And, form_of-Not}
use Rattle.peg_grammar.specs.Written.{form_of}
use Rattle.peg_semantics.specs.AbstractOutcomes.{Can, optional_outcome, star_outcome, plus_outcome, repeat_outcome, and_outcome, not_outcome}
use Rattle.peg_semantics.specs.Form as form
use Rattle.peg_semantics.specs.Form.{Form}
use Rattle.peg_semantics.specs.RuleOutcomes.{IsAbstractOutcome}
use Rattle.peg_semantics.specs.Rules.{Rule}
use Rattle.peg_lint.specs.Linting.{IsOperatorOn}
use Rattle.peg_lint.proofs.OutcomeLemmas.{of-Optional, of-Star, of-Plus, of-Counted, of-And, of-Not}
use Rattle.peg_lint.proofs.expressions.operator_outcome.Goals as goal

-- from the outcomes of the part in the operator's form to those of the expression that the code has
operator : (rules : List Rule) (given whole part e : Form) (can result by : Can) → given ≡ whole
    → (IsOperatorOn whole e → part ≡ e) → (IsAbstractOutcome rules part can → IsAbstractOutcome rules whole by)
    → result ≡ by → IsOperatorOn given e → IsAbstractOutcome rules e can → IsAbstractOutcome rules given result
operator rules given whole part e can result by same is_part lift is on outcome =
    let here : part ≡ e = is_part (subst (λ (f : Form). IsOperatorOn f e) same on) in
    let of_part = subst (λ (f : Form). IsAbstractOutcome rules f can) (sym here) outcome in
    subst (λ (f : Form). IsAbstractOutcome rules f result) (sym same)
    (subst (λ (c : Can). IsAbstractOutcome rules whole c) (sym is) (lift of_part))

pub returns-in-Optional : goal.returns-in-Optional
returns-in-Optional c = λ rules e.
    let part = form_of c.in-Optional.part.value in
    let span = extent c.in-Optional.span in
    operator rules (form_of c.args.expr.now) (form.Optional part span) part e (can_of c.args.part)
    (can_of c.optional.result) (optional_outcome (can_of c.args.part))
    (ap form_of c.in-Optional.is ∙ form_of-Optional c.in-Optional.part c.in-Optional.span) (λ on. on)
    (λ outcome. of-Optional rules span part (can_of c.args.part) outcome) c.optional.ensures

pub returns-in-Star : goal.returns-in-Star
returns-in-Star c = λ rules e.
    let part = form_of c.in-Star.part.value in
    let span = extent c.in-Star.span in
    operator rules (form_of c.args.expr.now) (form.Star part span) part e (can_of c.args.part)
    (can_of c.star.result) (star_outcome (can_of c.args.part))
    (ap form_of c.in-Star.is ∙ form_of-Star c.in-Star.part c.in-Star.span) (λ on. on)
    (λ outcome. of-Star rules span part (can_of c.args.part) outcome) c.star.ensures

pub returns-in-Plus : goal.returns-in-Plus
returns-in-Plus c = λ rules e.
    let part = form_of c.in-Plus.part.value in
    let span = extent c.in-Plus.span in
    operator rules (form_of c.args.expr.now) (form.Plus part span) part e (can_of c.args.part)
    (can_of c.plus.result) (plus_outcome (can_of c.args.part))
    (ap form_of c.in-Plus.is ∙ form_of-Plus c.in-Plus.part c.in-Plus.span) (λ on. on)
    (λ outcome. of-Plus rules span part (can_of c.args.part) outcome) c.plus.ensures

pub returns-in-Counted : goal.returns-in-Counted
returns-in-Counted c = λ rules e.
    let part = form_of c.in-Counted.part.value in
    let span = extent c.in-Counted.span in
    operator rules (form_of c.args.expr.now) (form.Counted part c.in-Counted.min c.in-Counted.max span) part e (can_of c.args.part)
    (can_of c.repeat.result) (repeat_outcome (can_of c.args.part) c.in-Counted.min c.in-Counted.max)
    (ap form_of c.in-Counted.is ∙ form_of-Counted c.in-Counted.part c.in-Counted.min c.in-Counted.max c.in-Counted.span) (λ on. on)
    (λ outcome. of-Counted rules span part (can_of c.args.part) outcome c.in-Counted.min c.in-Counted.max) c.repeat.ensures

pub returns-in-And : goal.returns-in-And
returns-in-And c = λ rules e.
    let part = form_of c.in-And.part.value in
    let span = extent c.in-And.span in
    operator rules (form_of c.args.expr.now) (form.And part span) part e (can_of c.args.part)
    (can_of c.and.result) (and_outcome (can_of c.args.part))
    (ap form_of c.in-And.is ∙ form_of-And c.in-And.part c.in-And.span) (λ on. on)
    (λ outcome. of-And rules span part (can_of c.args.part) outcome) c.and.ensures

pub returns-in-Not : goal.returns-in-Not
returns-in-Not c = λ rules e.
    let part = form_of c.in-Not.part.value in
    let span = extent c.in-Not.span in
    operator rules (form_of c.args.expr.now) (form.Not part span) part e (can_of c.args.part)
    (can_of c.not.result) (not_outcome (can_of c.args.part))
    (ap form_of c.in-Not.is ∙ form_of-Not c.in-Not.part c.in-Not.span) (λ on. on)
    (λ outcome. of-Not rules span part (can_of c.args.part) outcome) c.not.ensures
