-- The way that the distances of rules lead back to a start is the least of the shortest left cycles from it.
use Rattle.std.proofs.Common.{◌≡◌, ◌≢◌, ℕ, zero, suc, ◌+◌, ◌-◌, ◌<◌, ◌≤◌, ◌⊎◌, inl, inr, All, List, [], ◌∷◌, ◌++◌, length, refl, sym, ap, ◌∙◌, subst, arith, append_assoc}
use Rattle.std.proofs.lemmas.List.Elements.{All-nil, All-cons, All-weaker}
use Rattle.peg_core.specs.CoreForm.{CoreForm}
use Rattle.peg_core.specs.CoreLoops.{CoreLeftCalls, IsCoreChain}
use Rattle.peg_check.specs.Distances.{IsGuide}
use Rattle.peg_check.specs.LeastCycles.{IsBefore, IsLeastFrom}
use Rattle.peg_check.specs.Verdicts.{AllDiffer}
use Rattle.peg_check.proofs.PathLemmas.{AllDiffer-cons}

-- the rules of the way after a rule
abbrev pub way_after : (next : ℕ → ℕ) (calls rule : ℕ) → List ℕ
way_after next zero rule = []
way_after next (suc calls) rule = next rule ∷ way_after next calls (next rule)

module _ (start far : ℕ) (distance next : ℕ → ℕ) where
  -- this much of the way was taken, and this rule is next
  pub record IsOnWay (taken : List ℕ) (rule : ℕ) : Type 0 where
    pub near : distance rule < far
    pub calls : ℕ
    pub whole : ℕ
    pub is : distance rule ≡ suc calls
    pub all : distance start ≡ suc whole
    pub path : taken ++ rule ∷ way_after next calls rule ≡ start ∷ way_after next whole start

module _ (bodies : List CoreForm) (start far : ℕ) (distance next : ℕ → ℕ)
    (guide : IsGuide bodies start far distance next) where
  -- a chain back to the start is at least as long as the distance
  pub chain-long : (more : List ℕ) (rule : ℕ) → IsCoreChain bodies rule (more ++ start ∷ [])
      → (distance rule ≤ length more + 1) × (distance rule < far)
  chain-long [] rule chain = let back = guide.back rule chain.0 in let one : distance rule ≤ 1 = back.0 in (omega arith, back.1)
  chain-long (other ∷ more) rule chain =
      let rest = chain-long more other chain.1 in
      let on : distance rule ≤ distance other + 1 = guide.on rule other chain.0 in
      let few : distance other ≤ length more + 1 = rest.0 in
      (omega arith, guide.reach rule other chain.0 rest.1)

  way-length : (calls rule : ℕ) → length (way_after next calls rule) ≡ calls
  way-length zero rule = refl
  way-length (suc calls) rule = ap suc (way-length calls (next rule))

  -- the next rule on the way, unless it is the start
  on-way : (calls rule : ℕ) → distance rule ≡ suc (suc calls) → distance rule < far
      → (distance (next rule) ≡ suc calls) × (distance (next rule) < far)
  on-way calls rule is near = by (guide.cost rule near)
    where
      by : ((next rule ≡ start) × (distance rule ≡ 1)) ⊎ ((next rule ≢ start) × (distance rule ≡ distance (next rule) + 1))
          → (distance (next rule) ≡ suc calls) × (distance (next rule) < far)
      by (inl back) = let one : distance rule ≡ 1 = back.1 in absurd (omega arith)
      by (inr other) = let more : distance rule ≡ distance (next rule) + 1 = other.1 in (omega arith, omega arith)

  last-call : (rule : ℕ) → distance rule ≡ 1 → distance rule < far → next rule ≡ start
  last-call rule is near = by (guide.cost rule near)
    where
      by : ((next rule ≡ start) × (distance rule ≡ 1)) ⊎ ((next rule ≢ start) × (distance rule ≡ distance (next rule) + 1))
          → next rule ≡ start
      by (inl back) = back.0
      by (inr other) =
          let more : distance rule ≡ distance (next rule) + 1 = other.1 in
          let some : 1 ≤ distance (next rule) = guide.positive (next rule) in absurd (omega arith)

  pub way-chain : (calls rule : ℕ) → distance rule ≡ suc calls → distance rule < far
      → IsCoreChain bodies rule (way_after next calls rule ++ start ∷ [])
  way-chain zero rule is near =
      (subst (CoreLeftCalls bodies rule) (last-call rule is near) (guide.calls rule near), tt)
  way-chain (suc calls) rule is near =
      let on = on-way calls rule is near in
      (guide.calls rule near, way-chain calls (next rule) on.0 on.1)

  -- the rules on the way have smaller distances, so they differ
  way-below : (calls rule : ℕ) → distance rule ≡ suc calls → distance rule < far
      → All (λ other. distance other ≤ calls) (way_after next calls rule)
  way-below zero rule is near = All-nil (λ other. distance other ≤ zero)
  way-below (suc calls) rule is near =
      let on = on-way calls rule is near in
      let here : distance (next rule) ≡ suc calls = on.0 in
      All-cons (λ other. distance other ≤ suc calls) (next rule) (way_after next calls (next rule)) (omega arith)
      (All-weaker (λ other. distance other ≤ calls) (λ other. distance other ≤ suc calls) (λ other h. let few : distance other ≤ calls = h in omega arith) (way_after next calls (next rule)) (way-below calls (next rule) on.0 on.1))

  pub way-differs : (calls rule : ℕ) → distance rule ≡ suc calls → distance rule < far
      → AllDiffer (rule ∷ way_after next calls rule)
  way-differs zero rule is near =
      AllDiffer-cons rule [] (All-nil (λ other. rule ≢ other)) (λ i j d less within same. absurd (omega arith))
  way-differs (suc calls) rule is near =
      let on = on-way calls rule is near in
      AllDiffer-cons rule (way_after next (suc calls) rule)
      (All-weaker (λ other. distance other ≤ suc calls) (λ other. rule ≢ other)
      (λ other h same. let few : distance other ≤ suc calls = h in let equal : distance rule ≡ distance other = ap distance same in absurd (omega arith))
      (way_after next (suc calls) rule) (way-below (suc calls) rule is near))
      (way-differs calls (next rule) on.0 on.1)

  module _ (rule other : ℕ) (more : List ℕ) (calls : ℕ) (chain : IsCoreChain bodies rule (other ∷ (more ++ start ∷ [])))
      (is : distance rule ≡ suc (suc calls)) (counted : length (other ∷ more) ≡ suc calls) where
    -- the next rule of the chain is not the start
    apart : other ≢ start
    apart same =
        let back = guide.back rule (subst (CoreLeftCalls bodies rule) same chain.0) in
        let one : distance rule ≤ 1 = back.0 in absurd (omega arith)

    cost : distance rule ≡ distance other + 1
    cost =
        let rest = chain-long more other chain.1 in
        let few : distance other ≤ length more + 1 = rest.0 in
        let on : distance rule ≤ distance other + 1 = guide.on rule other chain.0 in
        omega arith

  -- no chain of the same length is less
  pub way-first : (calls rule : ℕ) (more : List ℕ) → distance rule ≡ suc calls → distance rule < far
      → IsCoreChain bodies rule (more ++ start ∷ []) → length more ≡ calls
      → ¬ IsBefore more (way_after next calls rule)
  way-first calls rule [] is near chain counted before = before
  way-first zero rule (other ∷ more) is near chain counted before = before
  way-first (suc calls) rule (other ∷ more) is near chain counted before =
      let on = on-way calls rule is near in
      elim before [
        | inl less ↦ (let least : next rule ≤ other = guide.least rule other near chain.0 (apart rule other more calls chain is counted) (cost rule other more calls chain is counted) in absurd (omega (arith, least, less)))
        | inr both ↦ way-first calls (next rule) more on.0 on.1
            (subst (λ r. IsCoreChain bodies r (more ++ start ∷ [])) both.0 chain.1) (omega arith) both.1
      ]

  -- ---- the way from the start

  pub way-least : (calls : ℕ) → distance start ≡ suc calls → distance start < far
      → IsLeastFrom bodies start (start ∷ way_after next calls start)
  way-least calls is near = record {
    more = way_after next calls start;
    is = refl;
    simple = (way-chain calls start is near, way-differs calls start is near);
    shortest = λ rest cycle. let long : distance start ≤ length rest + 1 = (chain-long rest start cycle).0 in omega (arith, way-length calls start);
    first = λ rest cycle counted. way-first calls start rest is near cycle (counted ∙ way-length calls start);
  }

  pub way-begins : distance start < far → IsOnWay start far distance next [] start
  way-begins near = record {
    near = near;
    calls = distance start - 1;
    whole = distance start - 1;
    is = omega (arith, guide.positive start);
    all = omega (arith, guide.positive start);
    path = refl;
  }

  pub way-goes : (path : List ℕ) (rule : ℕ) → IsOnWay start far distance next path rule → 1 < distance rule
      → IsOnWay start far distance next (path ++ rule ∷ []) (next rule) × (distance (next rule) < distance rule)
  way-goes path rule on more = by on.calls on.is on.path
    where
      by : (calls : ℕ) → distance rule ≡ suc calls → path ++ rule ∷ way_after next calls rule ≡ start ∷ way_after next on.whole start
          → IsOnWay start far distance next (path ++ rule ∷ []) (next rule) × (distance (next rule) < distance rule)
      by zero is taken = absurd (omega (arith, is, more))
      by (suc calls) is taken =
          let one = on-way calls rule is on.near in (
            record {
              near = one.1;
              calls = calls;
              whole = on.whole;
              is = one.0;
              all = on.all;
              path = append_assoc path (rule ∷ []) (next rule ∷ way_after next calls (next rule)) ∙ taken;
            },
            omega (arith, one.0, is),
          )

  pub way-ends : (path : List ℕ) (rule : ℕ) → IsOnWay start far distance next path rule → distance rule ≤ 1 → distance start < far
      → IsLeastFrom bodies start (path ++ rule ∷ [])
  way-ends path rule on few near = by on.calls on.is on.path
    where
      by : (calls : ℕ) → distance rule ≡ suc calls → path ++ rule ∷ way_after next calls rule ≡ start ∷ way_after next on.whole start
          → IsLeastFrom bodies start (path ++ rule ∷ [])
      by zero is taken = subst (IsLeastFrom bodies start) (sym taken) (way-least on.whole on.all near)
      by (suc calls) is taken = absurd (omega (arith, is, few))
