use Rattle.std.proofs.Common.{◌≡◌, ℕ, ◌-◌, ◌<◌, inl, inr, List, [], ◌∷◌, ◌++◌, All, Contains, sym, subst, arith}
use Rattle.std.proofs.lemmas.Bool.{cases_eq}
use Rattle.std.proofs.lemmas.List.Elements.{All-push, Contains-append_left, Contains-push}
use Rattle.peg_check.proofs.table.all_numbers.Goals as goal

pub loop-number-preserved : goal.loop-number-preserved
loop-number-preserved c =
    let numbers = c.loop-number.numbers.items in
    let new = c.push.new.self.items in
    let at = c.loop-number.number - 1 in
    let count = c.args.count in
    let pushed : new ≡ numbers ++ at ∷ [] = c.in_ok-push.ensures.items in
    let last : Contains new at = subst (λ (l : List ℕ). Contains l at) (sym pushed) (Contains-push numbers at) in
    let stays = λ (k : ℕ) (had : Contains numbers k). subst (λ (l : List ℕ). Contains l k) (sym pushed) (Contains-append_left numbers (at ∷ []) k had) in
    let below : at < count = omega (arith, c.loop-number.invariant.below, c.loop-number-test.true) in
    record {
      below = omega arith;
      all = λ k least within. elim (cases_eq k at) [ inl same ↦ subst (Contains new) (sym same) last | inr other ↦ stays k (c.loop-number.invariant.all k (omega arith) within) ];
      within = subst (All (λ k. k < count)) (sym pushed) (All-push (λ k. k < count) numbers at c.loop-number.invariant.within below);
    }
