use Rattle.std.proofs.Common.{◌≡◌, ◌<◌, ◌∷◌, [], All, false, true, Some, length, set, sym, ap, ◌∙◌, subst, arith, length-append}
use Rattle.std.proofs.lemmas.List.{length-set}
use Rattle.std.proofs.lemmas.List.Elements.{All-pop, All-push}
use Rattle.peg_check.specs.Cans.{nothing_known}
use Rattle.peg_check.specs.Marks.{is_marked, count_unmarked}
use Rattle.peg_check.specs.Visits.{AreVisits}
use Rattle.peg_check.specs.declared.dependency.Dependency.TheVariants as dep
use Rattle.peg_check.specs.declared.search_order.Visit.{Visit}
use Rattle.peg_check.proofs.MarkLemmas.{fewer-first_unmarked, work-falls}
use Rattle.peg_check.proofs.search_order.postorder.Goals as goal
use Rattle.peg_check.proofs.search_order.postorder.Goals.{In-Some}

-- the visits that are left, and the one that was taken
taken : (c : In-Some) → AreVisits (length c.args.well_formedness.now) c.pop.new.self.items × (c.in-Some.field-0.number < length c.args.well_formedness.now)
taken c =
    All-pop (λ (visit : Visit). visit.number < length c.args.well_formedness.now) c.visits.visits.items c.pop.new.self.items
    (Some c.in-Some.field-0) c.in-Some.ensures.items c.visits.invariant.visits

pub visits-preserved-then-matches : goal.visits-preserved-then-matches
visits-preserved-then-matches c =
    let at = (goal.at.visits-preserved-then-matches c).In-Some in
    let n = length c.args.well_formedness.now in
    record {
      count = c.visits.invariant.count;
      order = subst (All (λ k. k < n)) (sym c.in_ok-push.ensures.items) (All-push (λ k. k < n) c.visits.order.items c.in-Some.field-0.number c.visits.invariant.order (taken at).1);
      visits = (taken at).0;
    }

pub visits-preserved-then-index : goal.visits-preserved-then-index
visits-preserved-then-index c =
    let at = (goal.at.visits-preserved-then-index c).In-Some in
    record { count = c.visits.invariant.count; order = c.visits.invariant.order; visits = (taken at).0 }

pub visits-preserved : goal.visits-preserved
visits-preserved c =
    let at = (goal.at.visits-preserved c).In-Some in
    let number = c.in-Some.field-0.number in
    record {
      count = length-set c.visits.entered.items number true ∙ c.visits.invariant.count;
      order = c.visits.invariant.order;
      visits = c.in_ok-visit_parts.ensures.fit (length c.args.well_formedness.now) (taken at).1 (c.requires.fit number (dep.Constant nothing_known) (taken at).1) (taken at).0;
    }

pub visits-smaller : goal.visits-smaller
visits-smaller c =
    let at = (goal.at.visits-smaller c).In-Some in
    let number = c.in-Some.field-0.number in
    let entered = c.visits.entered.items in
    let rest = c.pop.new.self.items in
    let below : number < length entered = omega (arith, (taken at).1, c.visits.invariant.count) in
    let was : is_marked entered number ≡ false = grind arith in
    let one = fewer-first_unmarked entered number below was in
    let falls = work-falls (count_unmarked (set entered number true)) (count_unmarked entered) 3 (length rest) (length c.visit_parts.new.visits.items) one c.in_ok-visit_parts.ensures.few in
    omega (arith, falls, ap length c.in-Some.ensures.items, length-append rest (c.in-Some.field-0 ∷ []))
