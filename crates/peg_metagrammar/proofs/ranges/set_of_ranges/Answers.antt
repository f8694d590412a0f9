use Rattle.std.proofs.Common.{◌≡◌, List, map, take, ◌∙◌, ap, arith}
use Rattle.std.proofs.lemmas.List.{take_all}
use Rattle.peg_metagrammar.specs.Ranges.{in_ranges}
use Rattle.peg_metagrammar.specs.RangesCode.{range_of}
use Rattle.peg_metagrammar.specs.declared.ranges.ByteRange.{ByteRange}
use Rattle.peg_metagrammar.proofs.ClassSets.{set-class}
use Rattle.peg_metagrammar.proofs.ranges.set_of_ranges.Goals as goal

pub returns : goal.returns
returns c =
    let whole : take c.loop-range.range-index c.args.ranges.now ≡ c.args.ranges.now =
    take_all c.loop-range.range-index c.args.ranges.now (omega arith) in
    set-class c.loop-range.set (map range_of c.args.ranges.now)
    (λ byte. c.loop-range.invariant byte ∙ ap (λ (ranges : List ByteRange). in_ranges (map range_of ranges) byte) whole)
