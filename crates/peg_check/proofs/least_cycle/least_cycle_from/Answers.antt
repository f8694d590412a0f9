use Rattle.std.proofs.Common.{◌≡◌, sym, ◌∙◌, subst, arith}
use Rattle.std.proofs.lemmas.List.{get_or_default}
use Rattle.peg_core.specs.Layout.{bodies_of}
use Rattle.peg_check.specs.Distances.{AreNexts, IsGuide, distance_of, far_of, next_of}
use Rattle.peg_check.proofs.LeastCycleLemmas.{chain-near, distance-known, guide-of}
use Rattle.peg_check.proofs.least_cycle.least_cycle_from.Goals as goal
use Rattle.peg_check.proofs.least_cycle.least_cycle_from.Goals.{After-len}

-- the distance that is read is that of the start
start-distance : (c : After-len) → distance_of c.args.core.now c.in_ok-distances.distances.items c.args.start ≡ c.index.result.now
start-distance c =
    let core = c.args.core.now in
    let distances = c.in_ok-distances.distances.items in
    distance-known core c.args.well_formedness.now c.requires.checked_deps c.args.start distances c.in_ok-distances.ensures c.args.start c.body.result c.body.ensures.number
    ∙ (get_or_default distances c.body.result (far_of core) c.index.result.now (omega (arith, c.body.ensures.within, c.in_ok-distances.ensures.count))
    ∙ sym c.index.ensures)

pub returns-then-index-len : goal.returns-then-index-len
returns-then-index-len c = λ more cycle.
    let near = chain-near c.args.core.now c.args.well_formedness.now c.requires.checked_deps c.args.start c.in_ok-distances.distances.items c.in_ok-distances.ensures
    c.len.ensures.bodies more c.args.start cycle in
    omega (arith, near, start-distance (goal.at.returns-then-index-len c).After-len, c.if-index-len.true, c.len.ensures.count)

pub follow_next_rules-requires-clause-guide : goal.follow_next_rules-requires-clause-guide
follow_next_rules-requires-clause-guide c =
    let core = c.args.core.now in
    let distances = c.in_ok-distances.distances.items in
    let nexts = c.in_ok-nexts.nexts.items in
    let are = subst (λ d. AreNexts core c.args.start d nexts) c.deref.ensures.value c.in_ok-nexts.ensures.next in
    let guide = guide-of core c.args.well_formedness.now c.requires.checked_deps c.args.start distances c.in_ok-distances.ensures c.len.ensures.bodies nexts c.in_ok-nexts.ensures.count are in
    subst (λ d. IsGuide (bodies_of core) c.args.start (far_of core) (distance_of core d) (next_of core c.deref-3.result.now)) (sym c.deref-2.ensures.value)
    (subst (λ n. IsGuide (bodies_of core) c.args.start (far_of core) (distance_of core distances) (next_of core n)) (sym c.deref-3.ensures.value) guide)
