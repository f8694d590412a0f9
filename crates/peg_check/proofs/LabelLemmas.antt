-- Labels of components. A form gets the label of its search, if it has none yet, and then the forms that depend on it do.
use Rattle.std.proofs.Common.{◌≡◌, ℕ, ◌+◌, ◌-◌, ◌<◌, ◌≤◌, ◌⊎◌, inl, inr, Contains, List, [], ◌∷◌, ◌++◌, length, get_or, set, sym, ap, subst, arith}
use Rattle.std.specs.List.{sum_by}
use Rattle.std.proofs.lemmas.Bool.{cases_eq}
use Rattle.std.proofs.lemmas.List.{get_or-set_other, get_or-set_same}
use Rattle.std.proofs.lemmas.List.Elements.{Contains-push_cases}
use Rattle.std.proofs.lemmas.List.Sums.{sum_by-set}
use Rattle.peg_check.specs.Dependencies.{DependsOn, dep_at}
use Rattle.peg_check.specs.declared.dependency.Dependency.{Dependency}

-- the number of forms without a label, which is 0
abbrev pub one_if_zero : ℕ → ℕ
one_if_zero label = 1 - label

abbrev pub unlabelled : List ℕ → ℕ
unlabelled labels = sum_by one_if_zero labels

-- with one more label, one form less is left
pub fewer-unlabelled : (labels : List ℕ) (number label : ℕ) → number < length labels → 0 < label
    → get_or labels number 0 ≡ 0 → unlabelled (set labels number label) + 1 ≡ unlabelled labels
fewer-unlabelled labels number label within some none =
    let was : one_if_zero (get_or labels number 0) ≡ 1 = omega (arith, none) in
    let is : one_if_zero label ≡ 0 = omega (arith, some) in
    omega (arith, sum_by-set one_if_zero labels number label 0 within, was, is)

-- each form without a label is 0, and the others have this label or an earlier one
abbrev pub AreEarlier : List ℕ → (label : ℕ) → Type 0
AreEarlier labels label = (number : ℕ) → (get_or labels number 0 ≡ 0) ⊎ (label ≤ get_or labels number 0)

module _ (well_formedness : List Dependency) where
  -- a form has the label of each dependency or a greater one, or it is pending for this label
  abbrev pub AreAwaited : (labels pending : List ℕ) (label : ℕ) → Type 0
  AreAwaited labels pending label =
      (number part : ℕ) → number < length well_formedness → DependsOn (dep_at well_formedness number) part
      → (get_or labels part 0 ≤ get_or labels number 0) ⊎ ((get_or labels part 0 ≤ label) × Contains pending number)

module _ (labels : List ℕ) (label number : ℕ) (pending rest : List ℕ) (taken : pending ≡ rest ++ number ∷ []) where
  -- the form has a label
  pub awaited-same : (well_formedness : List Dependency) → AreEarlier labels label → 0 < get_or labels number 0
      → AreAwaited well_formedness labels pending label → AreAwaited well_formedness labels rest label
  awaited-same well_formedness earlier some awaited k part below goes =
      elim (awaited k part below goes) [
        | inl less ↦ inl less
        | inr waits ↦ elim (Contains-push_cases rest number k (subst (λ (l : List ℕ). Contains l k) taken waits.1)) [
          | inl still ↦ inr (waits.0, still)
          | inr is ↦ inl (elim (earlier number) [
            | inl none ↦ absurd (omega (arith, none, some))
            | inr has ↦ (let e = ap (λ j. get_or labels j 0) is in omega (arith, waits.0, has, e))
          ])
        ]
      ]

  module _ (within : number < length labels) (some : 0 < label) (none : get_or labels number 0 ≡ 0) where
    here : get_or (set labels number label) number 0 ≡ label
    here = get_or-set_same labels number label 0 within

    other : (k : ℕ) → (k ≡ number → ⊥) → get_or (set labels number label) k 0 ≡ get_or labels k 0
    other k apart = get_or-set_other labels number k label 0 apart

    pub earlier-labelled : AreEarlier labels label → AreEarlier (set labels number label) label
    earlier-labelled earlier k = elim (cases_eq k number) [
      | inl is ↦ (let e = ap (λ j. get_or (set labels number label) j 0) is in inr (omega (arith, e, here)))
      | inr apart ↦ elim (earlier k) [
        | inl nothing ↦ inl (omega (arith, nothing, other k apart))
        | inr has ↦ inr (omega (arith, has, other k apart))
      ]
    ]

    -- it gets the label, and the forms that depend on it are pending
    pub awaited-labelled : (well_formedness : List Dependency) (after : List ℕ)
        → ((k : ℕ) → Contains rest k → Contains after k)
        → ((k : ℕ) → k < length well_formedness → DependsOn (dep_at well_formedness k) number → Contains after k)
        → AreAwaited well_formedness labels pending label → AreAwaited well_formedness (set labels number label) after label
    awaited-labelled well_formedness after kept dependents awaited k part below goes = by (cases_eq part number) (cases_eq k number)
      where
        by : (part ≡ number) ⊎ (part ≡ number → ⊥) → (k ≡ number) ⊎ (k ≡ number → ⊥)
            → (get_or (set labels number label) part 0 ≤ get_or (set labels number label) k 0)
            ⊎ ((get_or (set labels number label) part 0 ≤ label) × Contains after k)
        by (inl is) _ =
            let e = ap (λ j. get_or (set labels number label) j 0) is in
            inr (omega (arith, e, here), dependents k below (subst (DependsOn (dep_at well_formedness k)) is goes))
        by (inr apart) (inl is) =
            let e = ap (λ j. get_or (set labels number label) j 0) is in
            let f = ap (λ j. get_or labels j 0) is in
            inl (elim (awaited k part below goes) [
              | inl less ↦ omega (arith, less, e, f, here, none, other part apart)
              | inr waits ↦ omega (arith, waits.0, e, here, other part apart)
            ])
        by (inr apart) (inr differs) = elim (awaited k part below goes) [
          | inl less ↦ inl (omega (arith, less, other part apart, other k differs))
          | inr waits ↦ elim (Contains-push_cases rest number k (subst (λ (l : List ℕ). Contains l k) taken waits.1)) [
            | inl still ↦ inr (omega (arith, waits.0, other part apart), kept k still)
            | inr is ↦ absurd (differs (sym is))
          ]
        ]
