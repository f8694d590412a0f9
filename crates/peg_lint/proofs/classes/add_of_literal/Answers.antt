use Rattle.std.proofs.Common.{inl, sym, ap, ◌∙◌}
use Rattle.std.proofs.lemmas.Result.{on_ok_weaker}
use Rattle.peg_bytes.specs.Extent.{extent}
use Rattle.peg_lint.specs.Habits.{holds_line_end, text_in}
use Rattle.peg_lint.specs.Linting.{FindsIf, FindsLineEnd}
use Rattle.peg_lint.specs.declared.warning.WarningKind.TheVariants as kind
use Rattle.peg_lint.proofs.FileLemmas.{AddsIn-test, AddsIn-weaker}
use Rattle.peg_lint.proofs.classes.add_of_literal.Goals as goal

pub returns : goal.returns
returns c =
    let file = c.args.file.now in
    let span = extent c.args.span in
    let number = c.args.rule in
    let old = c.args.found.now.items in
    let new = c.add_if.new.found.items in
    let test = holds_line_end (text_in file span) in
    let same = c.holds_line_end.ensures ∙ ap holds_line_end c.in-Some.ensures.text in
    on_ok_weaker c.add_if.result
    (λ adds rules bytes part. AddsIn-weaker file rules (FindsIf test kind.HoldsLineEnd number span)
    (FindsLineEnd file number span) old new (λ finds within. finds)
    (AddsIn-test file rules c.holds_line_end.result test kind.HoldsLineEnd number span old new same
    (adds file rules (λ h. (inl (bytes, part), c.in-Some.ensures.within, sym same ∙ h)))))
    c.add_if.ensures
