use Rattle.std.proofs.Common.{◌≡◌, ℕ, suc, ◌+◌, ◌<◌, List, [], ◌∷◌, ◌++◌, length, map, get_or, drop, slice_get, Some, sym, ap, ◌∙◌, arith, append_assoc}
use Rattle.std.proofs.Math.Seq.{drop-cons}
use Rattle.std.proofs.lemmas.List.{map-append}
use Rattle.std.proofs.lemmas.Option.{get_or_from_slice_get}
use Rattle.peg_check.specs.Cans.{can_of}
use Rattle.peg_check.specs.Exact.{cans_of}
use Rattle.peg_semantics.specs.AbstractOutcomes.{Can, no_outcome}
use Rattle.peg_lint.proofs.lint.rule_outcomes.Goals as goal

-- the bodies from a number on are that body and those after it
from-number : (bodies : List ℕ) (table : List Can) (i body : ℕ) → i < length bodies → slice_get bodies i ≡ Some body
    → cans_of (drop i bodies) table ≡ get_or table body no_outcome ∷ cans_of (drop (i + 1) bodies) table
from-number bodies table i body within at =
    let here : get_or bodies i 0 ≡ body = get_or_from_slice_get bodies i body 0 at in
    let next : suc i ≡ i + 1 = omega arith in
    ap (λ l. cans_of l table) (drop-cons bodies i 0 within)
    ∙ λ k. get_or table (here k) no_outcome ∷ cans_of (drop (next k) bodies) table

pub bodies-preserved : goal.bodies-preserved
bodies-preserved c =
    let bodies = c.args.core.now.bodies in
    let table = c.args.table.now in
    let i = c.bodies.rule in
    let outcomes = c.bodies.outcomes.items in
    let can = c.of.result in
    let rest = cans_of (drop (i + 1) bodies) table in
    let within : i < length bodies = omega (arith, c.bodies-test.true, c.rules-rule-end.ensures.count) in
    let stated : get_or table c.body.result no_outcome ≡ can_of can =
    get_or_from_slice_get table c.body.result (can_of can) no_outcome c.of.ensures in
    let step : cans_of (drop i bodies) table ≡ can_of can ∷ rest =
    from-number bodies table i c.body.result within c.body.ensures.number ∙ ap (λ x. x ∷ rest) stated in
    let pushed : map can_of c.push.new.self.items ≡ map can_of outcomes ++ can_of can ∷ [] =
    ap (map can_of) c.in_ok-push.ensures.items ∙ map-append can_of outcomes (can ∷ []) in
    ap (λ l. l ++ rest) pushed ∙ (append_assoc (map can_of outcomes) (can_of can ∷ []) rest
    ∙ (sym (ap (λ l. map can_of outcomes ++ l) step) ∙ c.bodies.invariant))
