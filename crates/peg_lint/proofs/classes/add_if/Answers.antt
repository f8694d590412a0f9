use Rattle.std.proofs.Common.{None, refl, sym, subst}
use Rattle.peg_bytes.specs.Extent.{extent}
use Rattle.peg_lint.specs.Linting.{AddsIn, FindsIf}
use Rattle.peg_lint.specs.declared.warning.Warning.{Warning}
use Rattle.peg_lint.proofs.FileLemmas.{AddsIn-push, HasWarning-push}
use Rattle.peg_lint.proofs.classes.add_if.Goals as goal

pub returns-in_ok-push : goal.returns-in_ok-push
returns-in_ok-push c file rules says =
    let found = c.args.found.now.items in
    let w : Warning = record { kind = c.args.kind; rule = c.args.rule; span = c.args.span; by = None } in
    let Finds = FindsIf c.args.holds c.args.kind c.args.rule (extent c.args.span) in
    subst (AddsIn file rules Finds found) (sym c.in_ok-push.ensures.items)
    (AddsIn-push file rules Finds found w (says c.if-holds.true, refl) (λ h. HasWarning-push found w))
