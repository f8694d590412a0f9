use Rattle.std.proofs.Common.{◌≡◌, ◌+◌, ◌-◌, ◌<◌, [], length, map, sym, subst, arith}
use Rattle.peg_core.specs.CoreForm.{Choice, one_of}
use Rattle.peg_core.specs.CoreParts.{choices_of}
use Rattle.peg_core.specs.Appending.{Appends}
use Rattle.peg_core.specs.Layout.{form_at}
use Rattle.peg_core.proofs.LaidLemmas.{forms_from, choices_in, any_of, choice-more, choice-first, length-pushed, if_pushed}
use Rattle.peg_core.proofs.sequences.add_choices.Goals as goal

pub loop-at-preserved : goal.loop-at-preserved
loop-at-preserved c =
    let old = c.args.builder.now in
    let mid = c.loop-at.builder in
    let new = c.push.new.self in
    let others = c.args.others.now in
    let at = c.loop-at.at - 1 in
    let up : at + 1 ≡ c.loop-at.at = omega (arith, c.loop-at-test.true) in
    let so_far = subst (λ n. Appends old (choices_in (forms_from old n others)) [] (any_of (forms_from old n others)) c.loop-at.rest mid) (sym up) c.loop-at.invariant.so_far in
    record {
      within = omega (arith, c.loop-at.invariant.within);
      room = omega (arith, c.loop-at.invariant.room, length-pushed mid new _ c.in_ok-rest.ensures.put, up);
      so_far = choice-more old mid new at others c.loop-at.rest c.in_ok-rest.rest (omega (arith, c.loop-at.invariant.within, up)) c.requires.within so_far c.in_ok-rest.ensures.put c.in_ok-rest.ensures.number;
    }

pub returns : goal.returns
returns c =
    let old = c.args.builder.now in
    let mid = c.loop-at.builder in
    let new = c.push-2.new.self in
    let others = c.args.others.now in
    let all_done : c.loop-at.at ≡ 0 = omega (arith, c.loop-at-test.false) in
    let some : 0 < length others = omega (arith, c.loop-at.invariant.within) in
    let so_far = subst (λ n. Appends old (choices_in (forms_from old n others)) [] (any_of (forms_from old n others)) c.loop-at.rest mid) all_done c.loop-at.invariant.so_far in
    if_pushed (λ number. Appends old (choices_of (form_at old.forms c.args.first) (map (form_at old.forms) others)) [] (one_of (form_at old.forms c.args.first) (map (form_at old.forms) others)) number new)
    c.push-2.result mid new (Choice (form_at mid.forms c.args.first) (form_at mid.forms c.loop-at.rest)) c.push-2.ensures.number c.push-2.ensures.put
    (λ number last put. choice-first old mid new c.args.first others c.loop-at.rest number some c.requires.first so_far put last)
