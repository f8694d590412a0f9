use Rattle.std.proofs.Common.{◌≡◌, ◌+◌, ◌<◌, All, [], ◌∷◌, ◌++◌, length, replicate, set, sym, ap, ◌∙◌, subst, arith, length-append}
use Rattle.std.specs.List.{sum_by}
use Rattle.std.proofs.lemmas.List.{get_or_default}
use Rattle.peg_check.specs.Cans.{nothing_known}
use Rattle.peg_check.specs.Distances.{distance_from, distance_at, far_of}
use Rattle.peg_check.specs.declared.dependency.Dependency.TheVariants as dep
use Rattle.peg_check.proofs.DistanceLemmas.{IsSearch, search-begins, taken-within, rest-within, search-same, search-shorter, search-done, shorter-falls, sum-falls}
use Rattle.peg_check.proofs.distances.call_distances.Goals as goal
use Rattle.peg_check.proofs.distances.call_distances.Goals.{In-Some, After-index}

within : (c : In-Some) → c.in-Some.number < length c.args.core.now.forms
within c =
    taken-within c.args.core.now c.args.well_formedness.now c.args.start c.looks.distances.items (c.looks.later.items ++ c.looks.now.items)
    (c.take_next.new.later.items ++ c.take_next.new.now.items) c.in-Some.number c.in-Some.ensures c.looks.invariant

rest : (c : In-Some) → All (λ k. k < length c.args.core.now.forms) (c.take_next.new.later.items ++ c.take_next.new.now.items)
rest c =
    rest-within c.args.core.now c.args.well_formedness.now c.args.start c.looks.distances.items (c.looks.later.items ++ c.looks.now.items)
    (c.take_next.new.later.items ++ c.take_next.new.now.items) c.in-Some.number c.in-Some.ensures c.looks.invariant

-- the distance from the others, and the distance so far
from : (c : After-index) → c.distance_from-distance.result ≡ distance_from c.args.core.now c.args.well_formedness.now c.args.start c.looks.distances.items c.in-Some.number
from c =
    c.distance_from-distance.ensures ∙ ap (λ l. distance_from c.args.core.now c.args.well_formedness.now c.args.start l c.in-Some.number) c.deref.ensures.value

was : (c : After-index) → c.in-Some.number < length c.args.core.now.forms → c.index.result.now ≡ distance_at c.args.core.now c.looks.distances.items c.in-Some.number
was c inside =
    c.index.ensures ∙ get_or_default c.looks.distances.items c.in-Some.number c.index.result.now (far_of c.args.core.now) (omega (arith, inside, c.looks.invariant.count))

pub distance_from-distance-requires-clause-within : goal.distance_from-distance-requires-clause-within
distance_from-distance-requires-clause-within c = within (goal.at.distance_from-distance-requires-clause-within c).In-Some

pub looks-preserved-then-index-distance : goal.looks-preserved-then-index-distance
looks-preserved-then-index-distance c =
    let at = (goal.at.looks-preserved-then-index-distance c).After-index in
    search-same c.args.core.now c.args.well_formedness.now c.args.start c.looks.distances.items (c.looks.later.items ++ c.looks.now.items)
    (c.take_next.new.later.items ++ c.take_next.new.now.items) c.in-Some.number c.in-Some.ensures c.looks.invariant
    (omega (arith, from at, was at (within (goal.at.looks-preserved-then-index-distance c).In-Some), c.if-index-distance.true))

pub looks-init : goal.looks-init
looks-init c =
    let core = c.args.core.now in
    let items : c.in_ok-distances.distances.items ≡ replicate (length core.forms) (far_of core) = c.in_ok-distances.ensures.items_if_clones_equal (λ y is. is)
    ∙ ((λ i. replicate (c.requires.count i) (c.len.result + 1)) ∙ ap (λ n. replicate (length core.forms) (n + 1)) c.len.ensures.count) in
    subst (λ l. IsSearch core c.args.well_formedness.now c.args.start c.in_ok-distances.distances.items (l ++ c.in_ok-now.now.items)) (sym c.new-later.ensures.items)
    (search-begins core c.args.well_formedness.now c.args.start c.in_ok-distances.distances.items c.in_ok-now.now.items items c.in_ok-now.ensures.within c.in_ok-now.ensures.all)

pub push_waiting-requires-clause-forms : goal.push_waiting-requires-clause-forms
push_waiting-requires-clause-forms c =
    let bodies = ap length c.deref-in-Some.ensures.value ∙ c.in_ok-bodies.ensures in
    subst (λ n. All (λ k. k < n) (c.take_next.new.later.items ++ c.take_next.new.now.items)) (sym bodies) (rest (goal.at.push_waiting-requires-clause-forms c).In-Some)

pub looks-preserved : goal.looks-preserved
looks-preserved c =
    let at = (goal.at.looks-preserved c).After-index in
    let core = c.args.core.now in
    let well_formedness = c.args.well_formedness.now in
    let number = c.in-Some.number in
    let after = c.push_waiting.new.later.items ++ c.push_waiting.new.now.items in
    let bodies = ap length c.deref-in-Some.ensures.value ∙ c.in_ok-bodies.ensures in
    let pushed = c.in_ok-push_waiting.ensures in
    search-shorter core well_formedness c.args.start c.looks.distances.items (c.looks.later.items ++ c.looks.now.items)
    (c.take_next.new.later.items ++ c.take_next.new.now.items) number c.in-Some.ensures c.looks.invariant c.distance_from-distance.result
    (from at) (omega (arith, was at (within (goal.at.looks-preserved c).In-Some), c.if-index-distance.false)) after
    (subst (λ n. All (λ k. k < n) after) bodies pushed.within) pushed.kept
    (λ k below goes. pushed.dependents k (c.in_ok-reverse_deps.ensures.dependents k (dep.Constant nothing_known) number (omega (arith, below, c.requires.count)) goes))

pub looks-smaller : goal.looks-smaller
looks-smaller c =
    let at = (goal.at.looks-smaller c).After-index in
    let inside = within (goal.at.looks-smaller c).In-Some in
    let distances = c.looks.distances.items in
    let number = c.in-Some.number in
    let distance = c.distance_from-distance.result in
    let rest = c.take_next.new.later.items ++ c.take_next.new.now.items in
    let entries = length c.in_ok-reverse_deps.reverse_deps.entries.items in
    let less : distance < distance_at c.args.core.now distances number = omega (arith, was at inside, c.if-index-distance.false) in
    let falls = sum-falls distances number distance (far_of c.args.core.now) (omega (arith, inside, c.looks.invariant.count)) less in
    let work = shorter-falls (sum_by (λ d. d) (set distances number distance)) (sum_by (λ d. d) distances) entries (length rest)
    (length (c.push_waiting.new.later.items ++ c.push_waiting.new.now.items)) falls c.in_ok-push_waiting.ensures.few in
    omega (arith, work, ap length c.in-Some.ensures, length-append rest (number ∷ []))

pub returns : goal.returns
returns c =
    search-done c.args.core.now c.args.well_formedness.now c.args.start c.looks.distances.items
    (subst (IsSearch c.args.core.now c.args.well_formedness.now c.args.start c.looks.distances.items) c.in_default.ensures c.looks.invariant)
