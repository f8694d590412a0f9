use Rattle.std.proofs.Common.{◌≡◌, get_or, sym, ◌∙◌, subst, arith}
use Rattle.peg_check.specs.Dependencies.{DepFits, dep_at}
use Rattle.peg_check.specs.Distances.{far_of, distance_at}
use Rattle.std.proofs.lemmas.List.{get_or_default}
use Rattle.peg_check.proofs.DepLemmas.{HasDeps-fits}
use Rattle.peg_check.proofs.LeastCycleLemmas.{next-call, next-whole, whole-distance, whole-fits}
use Rattle.peg_check.proofs.next_rules.next_rule.Goals as goal

pub returns-in-Some : goal.returns-in-Some
returns-in-Some c =
    next-call c.args.core.now c.args.well_formedness.now c.requires.checked_deps c.args.start c.args.distances.now c.requires.distances
    c.args.number c.in-Some.rule c.requires.within c.in-Some.ensures.used

pub least_next-requires-clause-distances : goal.least_next-requires-clause-distances
least_next-requires-clause-distances c =
    let l = dep_at c.args.well_formedness.now c.args.number in
    subst (λ n. DepFits n l) (sym c.requires.distances.count)
    (HasDeps-fits c.args.core.now c.args.number l c.requires.within (c.requires.checked_deps c.args.number c.requires.within))

pub least_next-requires-clause-nexts : goal.least_next-requires-clause-nexts
least_next-requires-clause-nexts c =
    let l = dep_at c.args.well_formedness.now c.args.number in
    subst (λ n. DepFits n l) (sym c.requires.count)
    (whole-fits c.args.core.now c.args.number l (c.requires.checked_deps c.args.number c.requires.within) c.in-None.ensures.used)

pub returns-in-None : goal.returns-in-None
returns-in-None c = λ near.
    let core = c.args.core.now in
    let number = c.args.number in
    let distances = c.args.distances.now in
    let is : get_or distances number 0 ≡ distance_at core distances number =
    get_or_default distances number 0 (far_of core) (omega (arith, c.requires.within, c.requires.distances.count)) in
    let none = c.in-None.ensures.used in
    let whole = whole-distance core c.args.well_formedness.now c.requires.checked_deps c.args.start distances c.requires.distances number c.requires.within none in
    let some = c.least_next.ensures.attained (far_of core) (is ∙ whole) (omega (arith, is, near)) in
    next-whole core c.args.well_formedness.now c.requires.checked_deps c.args.start distances c.requires.distances
    c.args.nexts.now number c.least_next.result c.requires.within c.requires.count c.requires.nexts none near
    (some.0, some.1, some.2 ∙ is, some.3)
    (λ part goes same. c.least_next.ensures.least (far_of core) part goes (same ∙ sym is))
