use Rattle.std.proofs.Common.{◌≡◌, ℕ, ◌<◌, ◌≤◌, List, [], ◌∷◌, ◌++◌, Option, None, Some, get_or, length, option_map, slice_get, unwrap_or, refl, sym, ap, ◌∙◌, subst, arith}
use Rattle.std.proofs.lemmas.List.{get_or_default}
use Rattle.std.proofs.lemmas.Option.{slice_get_within}
use Rattle.peg_core.specs.Layout.{Desugared, bodies_of}
use Rattle.peg_check.specs.Distances.{distance_at, distance_of, far_of, next_of}
use Rattle.peg_check.specs.LeastCycles.{IsLeastFrom}
use Rattle.peg_check.proofs.GuideLemmas.{IsOnWay, way-begins, way-goes, way-ends}
use Rattle.peg_check.proofs.least_cycle.follow_next_rules.Goals as goal

module _ (core : Desugared) (distances nexts : List ℕ) (counted : length distances ≡ length core.forms) where
  -- a rule with a distance is one of the rules
  near-within : (rule : ℕ) → distance_of core distances rule < far_of core → rule < length core.bodies
  near-within rule near = by (slice_get core.bodies rule) refl
    where
      by : (o : Option ℕ) → slice_get core.bodies rule ≡ o → rule < length core.bodies
      by None is =
          let e : distance_of core distances rule ≡ far_of core = ap (λ o. unwrap_or (option_map (distance_at core distances) o) (far_of core)) is in
          absurd (omega (arith, e, near))
      by (Some body) is = slice_get_within core.bodies rule body is

  module _ (rule body : ℕ) (there : slice_get core.bodies rule ≡ Some body) where
    next-read : next_of core nexts rule ≡ get_or nexts body 0
    next-read = ap (λ o. unwrap_or (option_map (λ b. get_or nexts b 0) o) 0) there

    distance-read : body < length core.forms → distance_of core distances rule ≡ get_or distances body 0
    distance-read inside =
        ap (λ o. unwrap_or (option_map (distance_at core distances) o) (far_of core)) there
        ∙ get_or_default distances body (far_of core) 0 (omega (arith, inside, counted))

pub steps-init : goal.steps-init
steps-init c =
    let core = c.args.core.now in
    record {
      within = c.requires.within;
      on = subst (λ p. IsOnWay c.args.start (far_of core) (distance_of core c.args.distances.now) (next_of core c.args.nexts.now) p c.args.start)
          (sym c.new-path.ensures.items)
          (way-begins (bodies_of core) c.args.start (far_of core) (distance_of core c.args.distances.now) (next_of core c.args.nexts.now) c.requires.guide c.requires.near);
    }

pub steps-preserved : goal.steps-preserved
steps-preserved c =
    let core = c.args.core.now in
    let distances = c.args.distances.now in
    let nexts = c.args.nexts.now in
    let rule = c.steps.rule in
    let more : 1 < distance_of core distances rule = omega (arith, c.steps-test.true, distance-read core distances nexts c.requires.distances rule c.body.result c.body.ensures.number c.body.ensures.within) in
    let goes = way-goes (bodies_of core) c.args.start (far_of core) (distance_of core distances) (next_of core nexts) c.requires.guide
    c.steps.path.items rule c.steps.invariant.on more in
    let read = next-read core distances nexts c.requires.distances rule c.body-in-steps.result c.body-in-steps.ensures.number in
    let next = subst (IsOnWay c.args.start (far_of core) (distance_of core distances) (next_of core nexts) (c.steps.path.items ++ rule ∷ [])) read goes.0 in
    record {
      within = near-within core distances nexts c.requires.distances (get_or nexts c.body-in-steps.result 0) next.near;
      on = subst (λ p. IsOnWay c.args.start (far_of core) (distance_of core distances) (next_of core nexts) p (get_or nexts c.body-in-steps.result 0))
          (sym c.in_ok-push.ensures.items) next;
    }

pub steps-smaller : goal.steps-smaller
steps-smaller c =
    let core = c.args.core.now in
    let distances = c.args.distances.now in
    let nexts = c.args.nexts.now in
    let rule = c.steps.rule in
    let more : 1 < distance_of core distances rule = omega (arith, c.steps-test.true, distance-read core distances nexts c.requires.distances rule c.body.result c.body.ensures.number c.body.ensures.within) in
    let goes = way-goes (bodies_of core) c.args.start (far_of core) (distance_of core distances) (next_of core nexts) c.requires.guide
    c.steps.path.items rule c.steps.invariant.on more in
    let read = next-read core distances nexts c.requires.distances rule c.body-in-steps.result c.body-in-steps.ensures.number in
    omega (arith, goes.1, ap (distance_of core distances) read)

pub returns : goal.returns
returns c =
    let core = c.args.core.now in
    let distances = c.args.distances.now in
    let nexts = c.args.nexts.now in
    let rule = c.steps.rule in
    let few : distance_of core distances rule ≤ 1 = omega (arith, c.steps-test.false, distance-read core distances nexts c.requires.distances rule c.body.result c.body.ensures.number c.body.ensures.within) in
    subst (IsLeastFrom (bodies_of core) c.args.start) (sym c.in_ok-push-2.ensures.items)
    (way-ends (bodies_of core) c.args.start (far_of core) (distance_of core distances) (next_of core nexts) c.requires.guide
    c.steps.path.items rule c.steps.invariant.on few c.requires.near)
