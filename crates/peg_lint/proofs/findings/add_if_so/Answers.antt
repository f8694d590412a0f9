use Rattle.std.proofs.Common.{◌++◌, ◌∷◌, [], None, sym, subst}
use Rattle.peg_grammar.specs.Written.{form_of}
use Rattle.peg_lint.specs.Linting.{Adds, FindsIf}
use Rattle.peg_lint.specs.Warnings.{HasWarning, Says, extent_of}
use Rattle.peg_lint.specs.declared.warning.Warning.{Warning}
use Rattle.peg_lint.proofs.FileLemmas.{Adds-push, HasWarning-push}
use Rattle.peg_lint.proofs.findings.add_if_so.Goals as goal

pub returns-in_ok-push : goal.returns-in_ok-push
returns-in_ok-push c = λ rules says.
    let found = c.args.found.now.items in
    let what = c.args.kind in
    let number = c.args.rule in
    let span = extent_of (form_of c.args.expr.now) in
    let w : Warning = record { kind = what; rule = number; span = c.span_of.result; by = None } in
    let Finds = FindsIf c.args.holds what number span in
    subst (Adds rules Finds found) (sym c.in_ok-push.ensures.items)
    (Adds-push rules Finds found w
    (λ start. subst (λ s. Says what rules start number s None) (sym c.span_of.ensures) (says c.if-holds.true start))
    (λ h. subst (λ s. HasWarning (found ++ w ∷ []) what number s None) c.span_of.ensures (HasWarning-push found w)))
