use Rattle.std.proofs.lemmas.Result.{on_ok_weaker}
use Rattle.peg_bytes.specs.ByteSet.{bytes_of}
use Rattle.peg_bytes.specs.Extent.{extent}
use Rattle.peg_metagrammar.specs.RangesCode.{range_of}
use Rattle.peg_lint.specs.Linting.{FindsIf, FindsRepeat}
use Rattle.peg_lint.specs.declared.warning.WarningKind.TheVariants as kind
use Rattle.peg_lint.proofs.FileLemmas.{AddsIn-weaker}
use Rattle.peg_lint.proofs.RepeatLemmas.{common, repeated}
use Rattle.peg_lint.proofs.classes.add_of_repeat.Goals as goal

pub returns : goal.returns
returns c =
    let span = extent c.args.span in
    let number = c.args.rule in
    let bytes = range_of c.args.bytes in
    let before = bytes_of c.args.seen.now in
    let l0 = c.args.found.now.items in
    let l1 = c.add_if.new.found.items in
    let shares = c.have_common_byte-is_repeated.ensures in
    on_ok_weaker c.add_if.result
    (λ adds file rules set class part within is inside seen.
    AddsIn-weaker file rules (FindsIf c.have_common_byte-is_repeated.result kind.RepeatedByte number span)
    (FindsRepeat file number class span) l0 l1
    (λ finds repeat. finds (shares.1 (common file class span bytes is before seen inside repeat)))
    (adds file rules (λ h. (set, class, part, within, repeated file class span bytes is before seen (shares.0 h)))))
    c.add_if.ensures
