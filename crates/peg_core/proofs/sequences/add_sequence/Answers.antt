use Rattle.std.proofs.Common.{◌≡◌, ◌+◌, ◌-◌, [], sym, subst, arith}
use Rattle.peg_core.specs.CoreForm.{all_in_order}
use Rattle.peg_core.specs.CoreParts.{sequences_of}
use Rattle.peg_core.specs.Appending.{Appends}
use Rattle.peg_core.proofs.LaidLemmas.{forms_from, sequence-more, length-pushed}
use Rattle.peg_core.proofs.sequences.add_sequence.Goals as goal

pub loop-at-preserved : goal.loop-at-preserved
loop-at-preserved c =
    let old = c.args.builder.now in
    let mid = c.loop-at.builder in
    let new = c.push-in-loop-at.new.self in
    let numbers = c.args.numbers.now in
    let at = c.loop-at.at - 1 in
    let up : at + 1 ≡ c.loop-at.at = omega (arith, c.loop-at-test.true) in
    let so_far = subst (λ n. Appends old (sequences_of (forms_from old n numbers)) [] (all_in_order (forms_from old n numbers)) c.loop-at.rest mid) (sym up) c.loop-at.invariant.so_far in
    record {
      within = omega (arith, c.loop-at.invariant.within);
      room = omega (arith, c.loop-at.invariant.room, length-pushed mid new _ c.in_ok-rest.ensures.put, up);
      so_far = sequence-more old mid new at numbers c.loop-at.rest c.in_ok-rest.rest (omega (arith, c.loop-at.invariant.within, up)) c.requires.within so_far c.in_ok-rest.ensures.put c.in_ok-rest.ensures.number;
    }
