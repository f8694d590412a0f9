use Rattle.std.proofs.Common.{◌≡◌, ℕ, suc, ◌-◌, ◌<◌, ◌∷◌, [], ◌++◌, inl, inr, All, Contains, Some, List, length, slice_get, refl, sym, ap, subst, arith, length-append}
use Rattle.std.proofs.lemmas.List.Elements.{All-push, Contains-append_left, Contains-push}
use Rattle.std.proofs.lemmas.Option.{slice_get_read}
use Rattle.peg_check.specs.ReverseDeps.{ChainContains}
use Rattle.peg_check.proofs.ChainLemmas.{ChainContains-next}
use Rattle.peg_check.proofs.reverse_deps.ReverseDeps.push_dependents.Goals as goal

pub loop-at-preserved : goal.loop-at-preserved
loop-at-preserved c =
    let entries = c.args.self.now.entries.items in
    let count = length c.args.self.now.newest.items in
    let pending = c.loop-at.pending.items in
    let new = c.push.new.self.items in
    let entry = c.index-entry.result.now in
    let at = c.loop-at.at - 1 in
    let up : suc at ≡ c.loop-at.at = omega (arith, c.loop-at-test.true) in
    let within : at < length entries = omega (arith, c.loop-at.invariant.within, up) in
    let there : slice_get entries at ≡ Some entry = slice_get_read entries (length entries) at entry refl within c.index-entry.ensures in
    let pushed : new ≡ pending ++ entry.dependent ∷ [] = c.in_ok-push.ensures.items in
    let older = c.requires.chains.older at entry there in
    let last : Contains new entry.dependent = subst (λ (l : List ℕ). Contains l entry.dependent) (sym pushed) (Contains-push pending entry.dependent) in
    let stays = λ (number : ℕ) (had : Contains pending number). subst (λ (l : List ℕ). Contains l number) (sym pushed) (Contains-append_left pending (entry.dependent ∷ []) number had) in
    record {
      within = omega (arith, older, within);
      room = omega (arith, older, up, c.loop-at.invariant.room, ap length pushed, length-append pending (entry.dependent ∷ []));
      kept = λ number had. stays number (c.loop-at.invariant.kept number had);
      forms = subst (All (λ number. number < count)) (sym pushed) (All-push (λ number. number < count) pending entry.dependent c.loop-at.invariant.forms (c.requires.chains.dependents at entry there));
      dependents = λ dependent used. elim (c.loop-at.invariant.dependents dependent used) [ inl had ↦ inl (stays dependent had) | inr leads ↦ elim (ChainContains-next entries at dependent entry there (subst (λ n. ChainContains entries n dependent) (sym up) leads)) [ inl same ↦ inl (subst (Contains new) same last) | inr further ↦ inr further ] ];
    }
