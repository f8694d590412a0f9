use Rattle.std.proofs.Common.{◌≡◌, zero, suc, ◌+◌, ◌∷◌, length, sym, ap, subst, arith, length-append}
use Rattle.peg_core.specs.CoreForm.{Empty}
use Rattle.peg_core.specs.CoreParts.{rounds_of}
use Rattle.peg_core.specs.Layout.{Layout, form_at}
use Rattle.peg_core.proofs.CountLemmas.{LaysRounds, needed, needed-more, optional-more}
use Rattle.peg_core.proofs.LaidLemmas.{Appends-one, length-pushed, within-grown}
use Rattle.peg_core.proofs.operators.add_iterations.Goals as goal
use Rattle.peg_core.proofs.operators.add_iterations.Goals.{then-done-optional+in_ok-rest-2, else-done-optional}

pub loop-done-init : goal.loop-done-init
loop-done-init c = record {
  room = omega (arith, c.requires.room, c.ranges.max.fits, length-pushed c.args.builder.now c.push.new.self Empty c.in_ok-nothing.ensures.put);
  so_far = Appends-one c.args.builder.now c.push.new.self Empty c.in_ok-nothing.nothing c.in_ok-nothing.ensures.put c.in_ok-nothing.ensures.number;
}

pub push-requires-in-loop-done-clause-room : goal.push-requires-in-loop-done-clause-room
push-requires-in-loop-done-clause-room c = omega (arith, c.loop-done.invariant.room, c.loop-done-test.true)

pub push-requires-in-loop-done-clause-fits : goal.push-requires-in-loop-done-clause-fits
push-requires-in-loop-done-clause-fits c =
    let so_far = c.loop-done.invariant.so_far in
    (within-grown c.args.builder.now c.loop-done.builder _ c.args.part so_far.forms c.requires.part, so_far.within)

pub push-requires-then-done-optional-clause-room : goal.push-requires-then-done-optional-clause-room
push-requires-then-done-optional-clause-room c =
    omega (arith, c.loop-done.invariant.room, c.loop-done-test.true, length-pushed c.loop-done.builder c.push-in-loop-done.new.self _ c.in_ok-rest.ensures.put)

pub push-requires-then-done-optional-clause-fits : goal.push-requires-then-done-optional-clause-fits
push-requires-then-done-optional-clause-fits c =
    let more = length-pushed c.loop-done.builder c.push-in-loop-done.new.self _ c.in_ok-rest.ensures.put in
    let old = c.args.builder.now in
    let form = form_at old.forms c.args.part in
    let before = rounds_of form (needed c.args.min c.args.max c.loop-done.done) c.loop-done.done in
    let grown = ap length c.loop-done.invariant.so_far.forms in
    (omega (arith, c.in_ok-rest.ensures.number, more), omega (arith, c.in_ok-nothing.ensures.number, more, grown, length-append old.forms (Empty ∷ before)))

pub loop-done-preserved : goal.loop-done-preserved
loop-done-preserved c =
    let old = c.args.builder.now in
    let mid = c.loop-done.builder in
    let later = c.push-in-loop-done.new.self in
    let part = c.args.part in
    let min = c.args.min in
    let max = c.args.max in
    let done = c.loop-done.done in
    let rest = c.loop-done.rest in
    let round = c.in_ok-rest.rest in
    let so_far = c.loop-done.invariant.so_far in
    let put = c.in_ok-rest.ensures.put in
    let last = c.in_ok-rest.ensures.number in
    let optional = c.saturating_sub-optional.ensures in
    let more = length-pushed mid later _ put in
    let next : suc done ≡ done + 1 = omega arith in
    let below = c.loop-done-test.true in
    elim c.if-done-optional.branch [
      | then-done-optional+in_ok-rest-2 w ↦
          let new = w.push-then-done-optional.new.self in
          let here : needed min max done ≡ zero = omega (arith, optional, w.if-done-optional.true, below) in
          let there : zero ≡ needed min max (done + 1) = omega (arith, optional, w.if-done-optional.true, below) in
          let start = subst (λ least. LaysRounds old part least done rest mid) here so_far in
          let lays = optional-more old mid later new part done rest round c.in_ok-nothing.nothing w.in_ok-rest-2.rest c.requires.part c.in_ok-nothing.ensures.number start put last w.in_ok-rest-2.ensures.put w.in_ok-rest-2.ensures.number in
          record {
            room = omega (arith, c.loop-done.invariant.room, below, more, length-pushed later new _ w.in_ok-rest-2.ensures.put, ap (λ (l : Layout). length l.forms) w.builder-is);
            so_far =
                subst (λ builder. LaysRounds old part (needed min max (done + 1)) (done + 1) c.if-done-optional.rest builder) (sym w.builder-is)
                (subst (λ number. LaysRounds old part (needed min max (done + 1)) (done + 1) number new) (sym w.rest-is)
                (subst (λ most. LaysRounds old part (needed min max (done + 1)) most w.in_ok-rest-2.rest new) next
                (subst (λ least. LaysRounds old part least (suc done) w.in_ok-rest-2.rest new) there lays)));
          }
      | else-done-optional w ↦
          let there : suc (needed min max done) ≡ needed min max (done + 1) = omega (arith, optional, w.if-done-optional.false, below) in
          let lays = needed-more old mid later part (needed min max done) done rest round c.requires.part so_far put last in
          record {
            room = omega (arith, c.loop-done.invariant.room, below, more, ap (λ (l : Layout). length l.forms) w.builder-is);
            so_far =
                subst (λ builder. LaysRounds old part (needed min max (done + 1)) (done + 1) c.if-done-optional.rest builder) (sym w.builder-is)
                (subst (λ number. LaysRounds old part (needed min max (done + 1)) (done + 1) number later) (sym w.rest-is)
                (subst (λ most. LaysRounds old part (needed min max (done + 1)) most round later) next
                (subst (λ least. LaysRounds old part least (suc done) round later) there lays)));
          }
    ]

pub returns : goal.returns
returns c =
    let old = c.args.builder.now in
    let new = c.loop-done.builder in
    let part = c.args.part in
    let min = c.args.min in
    let max = c.args.max in
    let number = c.loop-done.rest in
    let whole : c.loop-done.done ≡ max = omega (arith, c.loop-done-test.false, c.loop-done.auto.done-end) in
    let all : needed min max max ≡ min = omega arith in
    let lays = subst (λ done. LaysRounds old part (needed min max done) done number new) whole c.loop-done.invariant.so_far in
    subst (λ least. LaysRounds old part least max number new) all lays
