use Rattle.std.proofs.Common.{map, sym, ap, ap₂, ◌∙◌}
use Rattle.peg_bytes.specs.Extent.{extent}
use Rattle.peg_semantics.specs.Form as form
use Rattle.peg_semantics.specs.Form.{forms}
use Rattle.peg_diagnostics.specs.Diagnostic.{quiet}
use Rattle.peg_diagnostics.specs.Operators.{with_part}
use Rattle.peg_diagnostics.proofs.OperatorCopies.{quiet-operator}
use Rattle.peg_grammar.specs.Written.{form_of}
use Rattle.peg_grammar.proofs.WrittenForms.{form_of-Seq, form_of-Choice}
use Rattle.peg_diagnostics.proofs.WrittenCopies.{forms-quiet, IfOk-form}
use Rattle.peg_diagnostics.proofs.quiet_copies.+quiet.Goals as goal

pub quiet_expression-returns-in_ok-quiet_items-in-Seq :
    goal.quiet_expression-returns-in_ok-quiet_items-in-Seq
quiet_expression-returns-in_ok-quiet_items-in-Seq t c =
    let span = c.in-Seq.span in
    let whole =
    ap (λ l. form.Seq (forms l) (extent span)) c.in_ok-quiet_items-in-Seq.ensures
    ∙ ap (λ l. form.Seq (forms (map (λ item. quiet (form_of item)) l)) (extent span)) c.deref-in-Seq.ensures.value
    ∙ ap (λ l. form.Seq l (extent span)) (forms-quiet c.in-Seq.items.items)
    ∙ ap quiet (sym (form_of-Seq c.in-Seq.items span))
    ∙ ap (λ e. quiet (form_of e)) (sym c.in-Seq.is) in
    IfOk-form c.seq.result
    (form.Seq (forms (map form_of c.in_ok-quiet_items-in-Seq.field-0.items)) (extent span))
    (quiet (form_of c.args.expression.now)) whole c.seq.ensures

pub quiet_expression-returns-in_ok-quiet_items-in-Choice :
    goal.quiet_expression-returns-in_ok-quiet_items-in-Choice
quiet_expression-returns-in_ok-quiet_items-in-Choice t c =
    let span = c.in-Choice.span in
    let first = c.in_ok-first-in-Choice.ensures ∙ ap (λ e. quiet (form_of e)) c.deref-in-Choice.ensures in
    let rest =
    ap forms c.in_ok-quiet_items-in-Choice.ensures
    ∙ ap (λ l. forms (map (λ item. quiet (form_of item)) l)) c.deref-in-Choice-2.ensures.value
    ∙ forms-quiet c.in-Choice.rest.items in
    let whole =
    ap₂ (λ e l. form.Choice e l (extent span)) first rest
    ∙ ap quiet (sym (form_of-Choice c.in-Choice.first c.in-Choice.rest span))
    ∙ ap (λ e. quiet (form_of e)) (sym c.in-Choice.is) in
    IfOk-form c.choice.result
    (form.Choice (form_of c.in_ok-first-in-Choice.first.value)
    (forms (map form_of c.in_ok-quiet_items-in-Choice.field-0.items)) (extent span))
    (quiet (form_of c.args.expression.now)) whole c.choice.ensures

pub quiet_expression-returns-in_ok-copy-in-Optional :
    goal.quiet_expression-returns-in_ok-copy-in-Optional
quiet_expression-returns-in_ok-copy-in-Optional t c =
    let whole = form_of c.args.expression.now in
    let copied = c.in_ok-copy-in-Optional.ensures ∙ ap (λ e. quiet (form_of e)) c.deref-in-Optional.ensures in
    IfOk-form c.with_part.result (with_part whole (form_of c.in_ok-copy-in-Optional.copy.value)) (quiet whole)
    (ap (with_part whole) copied ∙ quiet-operator c.args.expression.now c.in-Optional.part c.in-Optional.is)
    c.with_part.ensures
