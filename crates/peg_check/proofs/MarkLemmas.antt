-- Marks of settled forms. A marked form is settled; another one is pending or depends on a form that isn't marked.
use Rattle.std.proofs.Common.{◌≡◌, ℕ, zero, suc, ◌+◌, ◌-◌, ◌*◌, ◌<◌, ◌≤◌, ◌⊎◌, inl, inr, Bool, true, false, Contains, List, [], ◌∷◌, ◌++◌, length, replicate, set, sym, ap, ◌∙◌, subst, arith, zero-add, suc-add}
use Rattle.std.specs.List.{sum_by}
use Rattle.std.proofs.Math.Nat.{suc-mul}
use Rattle.std.proofs.lemmas.Bool.{cases_eq, cases_lt}
use Rattle.std.proofs.lemmas.List.{get_or-replicate, get_or-set_other, get_or-set_same, get_or_past, length-replicate, length-set}
use Rattle.std.proofs.lemmas.List.Elements.{Contains-push_cases}
use Rattle.std.proofs.lemmas.List.Sums.{sum_by-cons, sum_by-set}
use Rattle.peg_check.specs.Dependencies.{DependsOn, dep_at}
use Rattle.peg_check.specs.Marks.{is_marked, IsSettledIn, AllMarked, HasUnmarkedDep}
use Rattle.peg_check.specs.Fixpoint.{one_unless}
use Rattle.peg_check.specs.declared.dependency.Dependency.{Dependency}

-- with one more mark, one form less is left
pub fewer-first_unmarked : (marks : List Bool) (number : ℕ) → number < length marks → is_marked marks number ≡ false
    → sum_by one_unless (set marks number true) + 1 ≡ sum_by one_unless marks
fewer-first_unmarked marks number within was =
    omega (arith, sum_by-set one_unless marks number true false within, ap one_unless was)

pub work-falls : (s t entries rest after : ℕ) → s + 1 ≡ t → after ≤ rest + entries
    → s * (entries + 1) + after < t * (entries + 1) + (rest + 1)
work-falls s t entries rest after one few =
    let e : suc s ≡ t = omega arith in
    omega (arith, suc-mul s (entries + 1), ap (λ n. n * (entries + 1)) e)

-- the newly marked form is marked, and earlier marks stay
pub marked-now : (marks : List Bool) (number : ℕ) → number < length marks → is_marked (set marks number true) number ≡ true
marked-now marks number within = get_or-set_same marks number true false within

pub marked-still : (marks : List Bool) (number other : ℕ) → number < length marks → is_marked marks other ≡ true
    → is_marked (set marks number true) other ≡ true
marked-still marks number other within was = by (cases_eq other number)
  where
    by : (other ≡ number) ⊎ (other ≡ number → ⊥) → is_marked (set marks number true) other ≡ true
    by (inl same) = subst (λ k. is_marked (set marks number true) k ≡ true) (sym same) (marked-now marks number within)
    by (inr apart) = get_or-set_other marks number other true false apart ∙ was

-- at first no form is marked
pub none-marked : (n number : ℕ) → is_marked (replicate n false) number ≡ false
none-marked n number = by (cases_lt number n)
  where
    by : (number < n) ⊎ (n ≤ number) → is_marked (replicate n false) number ≡ false
    by (inl below) = get_or-replicate n number false false below
    by (inr past) = get_or_past (replicate n false) number false (omega (arith, length-replicate n false))

-- at most all forms are unmarked
pub most-first_unmarked : (marks : List Bool) → sum_by one_unless marks ≤ length marks
most-first_unmarked [] = omega arith
most-first_unmarked (true ∷ marks) = omega (arith, most-first_unmarked marks, sum_by-cons one_unless true marks)
most-first_unmarked (false ∷ marks) = omega (arith, most-first_unmarked marks, sum_by-cons one_unless false marks)

module _ (well_formedness : List Dependency) where
  pub settled-more : (n number : ℕ) → IsSettledIn well_formedness n number → IsSettledIn well_formedness (suc n) number
  unfolding IsSettledIn
  settled-more zero number settled = absurd settled
  settled-more (suc n) number settled = λ part goes. settled-more n part (settled part goes)

  settled-by : (n number : ℕ) → ((part : ℕ) → DependsOn (dep_at well_formedness number) part → IsSettledIn well_formedness n part)
      → IsSettledIn well_formedness (suc n) number
  unfolding IsSettledIn
  settled-by n number all = all

  pub settled-later : (more n number : ℕ) → IsSettledIn well_formedness n number → IsSettledIn well_formedness (more + n) number
  settled-later zero n number settled = rw zero-add settled
  settled-later (suc more) n number settled =
      rw suc-add (settled-more (more + n) number (settled-later more n number settled))

  -- all marked forms are settled, in at most as many rounds as there are marks
  abbrev pub Rounds : List Bool → Type 0
  Rounds marks =
      (n : ℕ) × (n + sum_by one_unless marks ≤ length marks)
      × ((number : ℕ) → is_marked marks number ≡ true → IsSettledIn well_formedness n number)

  pub Rounds-all : (marks : List Bool) → length marks ≡ length well_formedness → Rounds marks → (number : ℕ)
      → is_marked marks number ≡ true → IsSettledIn well_formedness (length well_formedness) number
  Rounds-all marks count rounds number marked =
      let few : rounds.0 + sum_by one_unless marks ≤ length marks = rounds.1 in
      let all : length well_formedness - rounds.0 + rounds.0 ≡ length well_formedness = omega arith in
      subst (λ n. IsSettledIn well_formedness n number) all (settled-later (length well_formedness - rounds.0) rounds.0 number (rounds.2 number marked))

  -- each form that isn't marked is pending, or depends on one that isn't
  abbrev pub AreWaiting : List Bool → List ℕ → Type 0
  AreWaiting marks pending =
      (number : ℕ) → number < length well_formedness → is_marked marks number ≡ false
      → Contains pending number ⊎ HasUnmarkedDep marks (dep_at well_formedness number)

  module _ (marks : List Bool) (number : ℕ) where
    other-mark : (k : ℕ) → (k ≡ number → ⊥) → is_marked (set marks number true) k ≡ is_marked marks k
    other-mark k other = get_or-set_other marks number k true false other

    pub Rounds-marked : number < length marks → is_marked marks number ≡ false → AllMarked marks (dep_at well_formedness number)
        → Rounds marks → Rounds (set marks number true)
    Rounds-marked within was all rounds = (
      suc rounds.0,
      (let few : rounds.0 + sum_by one_unless marks ≤ length marks = rounds.1 in
          omega (arith, fewer-first_unmarked marks number within was, length-set marks number true)),
      λ k marked. by k marked (cases_eq k number),
    )
      where
        here : IsSettledIn well_formedness (suc rounds.0) number
        here = settled-by rounds.0 number (λ part goes. rounds.2 part (all part goes))

        by : (k : ℕ) → is_marked (set marks number true) k ≡ true → (k ≡ number) ⊎ (k ≡ number → ⊥)
            → IsSettledIn well_formedness (suc rounds.0) k
        by k marked (inl is) = subst (IsSettledIn well_formedness (suc rounds.0)) (sym is) here
        by k marked (inr other) = settled-more rounds.0 k (rounds.2 k (sym (other-mark k other) ∙ marked))

    module _ (pending rest : List ℕ) (taken : pending ≡ rest ++ number ∷ []) (waiting : AreWaiting marks pending) where
      -- the form that was taken is marked already, or depends on one that isn't
      pub AreWaiting-same : (is_marked marks number ≡ false → HasUnmarkedDep marks (dep_at well_formedness number)) → AreWaiting marks rest
      AreWaiting-same left k below first_unmarked = by (waiting k below first_unmarked)
        where
          by : Contains pending k ⊎ HasUnmarkedDep marks (dep_at well_formedness k) → Contains rest k ⊎ HasUnmarkedDep marks (dep_at well_formedness k)
          by (inr some) = inr some
          by (inl had) =
              elim (Contains-push_cases rest number k (subst (λ (l : List ℕ). Contains l k) taken had)) [ inl still ↦ inl still | inr is ↦ inr (subst (λ j. HasUnmarkedDep marks (dep_at well_formedness j)) is (left (ap (is_marked marks) is ∙ first_unmarked))) ]

      -- the form is newly marked, and the forms that depend on it are pending again
      pub AreWaiting-marked : number < length marks → (after : List ℕ)
          → ((k : ℕ) → Contains rest k → Contains after k)
          → ((k : ℕ) → k < length well_formedness → DependsOn (dep_at well_formedness k) number → Contains after k)
          → AreWaiting (set marks number true) after
      AreWaiting-marked within after kept dependents k below first_unmarked = cases (cases_eq k number)
        where
          left-still : HasUnmarkedDep marks (dep_at well_formedness k) → Contains after k ⊎ HasUnmarkedDep (set marks number true) (dep_at well_formedness k)
          left-still some =
              elim (cases_eq some.0 number) [ inl is ↦ inl (dependents k below (subst (DependsOn (dep_at well_formedness k)) is some.1.0)) | inr other ↦ inr (some.0, (some.1.0, other-mark some.0 other ∙ some.1.1)) ]

          by : (k ≡ number → ⊥) → Contains pending k ⊎ HasUnmarkedDep marks (dep_at well_formedness k)
              → Contains after k ⊎ HasUnmarkedDep (set marks number true) (dep_at well_formedness k)
          by other (inr some) = left-still some
          by other (inl had) =
              elim (Contains-push_cases rest number k (subst (λ (l : List ℕ). Contains l k) taken had)) [ inl still ↦ inl (kept k still) | inr is ↦ absurd (other (sym is)) ]

          cases : (k ≡ number) ⊎ (k ≡ number → ⊥) → Contains after k ⊎ HasUnmarkedDep (set marks number true) (dep_at well_formedness k)
          cases (inl is) =
              let now : is_marked (set marks number true) number ≡ true = get_or-set_same marks number true false within in
              let bad : true ≡ false = sym now ∙ (ap (is_marked (set marks number true)) (sym is) ∙ first_unmarked) in
              cc
          cases (inr other) = by other (waiting k below (sym (other-mark k other) ∙ first_unmarked))
