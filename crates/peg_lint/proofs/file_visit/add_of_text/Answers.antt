use Rattle.std.proofs.Common.{◌≡◌, List, map, ap, sym, ◌∙◌, subst}
use Rattle.std.proofs.lemmas.Result.{on_ok_weaker}
use Rattle.peg_bytes.specs.ByteSet.{bytes_of}
use Rattle.peg_bytes.specs.Extent.{extent}
use Rattle.peg_grammar.proofs.WrittenForms.{form_of-Choice}
use Rattle.peg_grammar.specs.Written.{form_of}
use Rattle.peg_grammar.specs.declared.expr.Expr.{Expr}
use Rattle.peg_semantics.specs.Form as form
use Rattle.peg_semantics.specs.Form.{forms}
use Rattle.peg_lint.specs.Linting.{FindsClass, FindsEmpty, FindsLineEnd, FindsText}
use Rattle.peg_lint.specs.Warnings.{IsPartOfRule}
use Rattle.peg_lint.specs.declared.warning.Warning.{Warning}
use Rattle.peg_lint.proofs.FileLemmas.{AddsIn-weaker}
use Rattle.peg_lint.proofs.PartLemmas.{form_of-Class, form_of-Literal}
use Rattle.peg_lint.proofs.TextLemmas.{FindsText-choice, FindsText-class, FindsText-literal}
use Rattle.peg_lint.proofs.file_visit.add_of_text.Goals as goal

pub returns-in-Class : goal.returns-in-Class
returns-in-Class c =
    let file = c.args.file.now in
    let e = form_of c.args.expr.now in
    let number = c.args.rule in
    let span = extent c.in-Class.span in
    let new = c.add_of_class.new.found.items in
    let set = bytes_of c.in-Class.set in
    let same = ap form_of c.in-Class.is ∙ form_of-Class c.in-Class.set c.in-Class.span in
    on_ok_weaker c.add_of_class.result
    (λ adds rules part. AddsIn-weaker file rules (FindsClass file number span)
    (λ (now : List Warning). FindsText file number now e) c.args.found.now.items new
    (λ finds. FindsText-class file number new e set span same finds)
    (adds rules set (subst (IsPartOfRule rules number) same part)))
    c.add_of_class.ensures

pub returns-in-Literal : goal.returns-in-Literal
returns-in-Literal c =
    let file = c.args.file.now in
    let e = form_of c.args.expr.now in
    let number = c.args.rule in
    let span = extent c.in-Literal.span in
    let new = c.add_of_literal.new.found.items in
    let bytes = c.in-Literal.bytes.items in
    let same = ap form_of c.in-Literal.is ∙ form_of-Literal c.in-Literal.bytes c.in-Literal.span in
    on_ok_weaker c.add_of_literal.result
    (λ adds rules part. AddsIn-weaker file rules (FindsLineEnd file number span)
    (λ (now : List Warning). FindsText file number now e) c.args.found.now.items new
    (λ finds. FindsText-literal file number new e bytes span same finds)
    (adds rules bytes (subst (IsPartOfRule rules number) same part)))
    c.add_of_literal.ensures

pub returns-in-Choice : goal.returns-in-Choice
returns-in-Choice c =
    let file = c.args.file.now in
    let number = c.args.rule in
    let span = extent c.in-Choice.span in
    let e = form_of c.args.expr.now in
    let first = form_of c.deref.result.now in
    let rest = forms (map form_of c.deref-in-Choice.result.now) in
    let now = form.Choice first rest span in
    let new = c.add_empty_alternatives.new.found.items in
    let at_rest = ap (λ (l : List Expr). forms (map form_of l)) c.deref-in-Choice.ensures.value in
    let same : e ≡ now = ap form_of c.in-Choice.is ∙ (form_of-Choice c.in-Choice.first c.in-Choice.rest c.in-Choice.span
    ∙ sym (λ i. form.Choice (form_of (c.deref.ensures i)) (at_rest i) span)) in
    on_ok_weaker c.add_empty_alternatives.result
    (λ adds rules part. AddsIn-weaker file rules (FindsEmpty number now)
    (λ (now : List Warning). FindsText file number now e) c.args.found.now.items new
    (λ finds. FindsText-choice file number new e first rest span same finds)
    (adds file rules span (subst (IsPartOfRule rules number) same part)))
    c.add_empty_alternatives.ensures
