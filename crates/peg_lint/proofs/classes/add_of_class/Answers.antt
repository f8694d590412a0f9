use Rattle.std.proofs.Common.{subst}
use Rattle.std.proofs.lemmas.Result.{on_ok_weaker}
use Rattle.peg_bytes.specs.Extent.{extent}
use Rattle.peg_lint.specs.Linting.{FindsClass, FindsRanges, FindsWhole}
use Rattle.peg_lint.proofs.FileLemmas.{AddsIn-then, FindsWhole-later}
use Rattle.peg_lint.proofs.classes.add_of_class.Goals as goal

pub returns : goal.returns
returns c =
    let file = c.args.file.now in
    let span = extent c.args.span in
    let number = c.args.rule in
    let text = c.in-Some.text.now in
    let l0 = c.args.found.now.items in
    let l1 = c.add_of_whole.new.found.items in
    let l2 = c.add_of_ranges.new.found.items in
    let within = c.in-Some.ensures.within in
    on_ok_weaker c.add_of_ranges.result
    (λ adds rules set part. AddsIn-then file rules (FindsWhole text number span) (FindsRanges file number span)
    (FindsClass file number span) l0 l1 l2
    (c.in_ok-add_of_whole.ensures file rules set part within c.in-Some.ensures.text)
    (adds rules set part within)
    (λ keeps whole ranges _. (
      subst (λ t. FindsWhole t number span l2) c.in-Some.ensures.text (FindsWhole-later l1 l2 keeps text number span whole),
      ranges,
    )))
    c.add_of_ranges.ensures
