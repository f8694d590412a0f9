use Rattle.std.proofs.Common.{◌≡◌, ◌+◌, ◌∷◌, List, length, map, sym, ap, ◌∙◌, subst, arith}
use Rattle.std.proofs.lemmas.Option.{get_or_from_slice_get}
use Rattle.peg_bytes.specs.Extent.{extent}
use Rattle.peg_grammar.proofs.WrittenForms.{form_of-Choice}
use Rattle.peg_grammar.specs.Written.{form_of}
use Rattle.peg_grammar.specs.declared.expr.Expr.{Expr}
use Rattle.peg_semantics.specs.Form as form
use Rattle.peg_semantics.specs.Form.{Form, forms}
use Rattle.peg_lint.specs.FileWarnings.{IsLastAlternative}
use Rattle.peg_lint.proofs.DotLemmas.{last-of}
use Rattle.peg_lint.proofs.dots.last_alternative.Goals as goal

pub returns-in-Choice : goal.returns-in-Choice
returns-in-Choice c =
    let one = c.alternative_at.result.now in
    let rest = c.deref-in-Choice.result.now in
    let items = c.deref.result.now ∷ rest in
    let span = extent c.in-Choice.span in
    let at_rest = ap (λ (l : List Expr). forms (map form_of l)) c.deref-in-Choice.ensures.value in
    let same : form_of c.args.expr.now ≡ form.Choice (form_of c.deref.result.now) (forms (map form_of rest)) span =
    ap form_of c.in-Choice.is ∙ (form_of-Choice c.in-Choice.first c.in-Choice.rest c.in-Choice.span
    ∙ sym (λ i. form.Choice (form_of (c.deref.ensures i)) (at_rest i) span)) in
    let count : c.len.result + 1 ≡ length items = omega (arith, c.len.ensures, ap length c.deref-in-Choice.ensures.value, c.in-Choice.rest.ok.0) in
    let at = sym (get_or_from_slice_get items c.len.result one one c.alternative_at.ensures) in
    subst (λ (f : Form). IsLastAlternative f (form_of one)) (sym same) (last-of items c.len.result one count at)
