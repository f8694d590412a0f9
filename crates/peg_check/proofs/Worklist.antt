-- A form whose link adds no outcomes stays so until one of its dependencies gets more.
use Rattle.std.proofs.Common.{◌≡◌, ℕ, ◌<◌, ◌⊎◌, inl, inr, All, Contains, List, [], ◌∷◌, ◌++◌, length, take, drop, get_or, refl, sym, ap, ◌∙◌, subst, arith, length-append}
use Rattle.std.proofs.lemmas.Bool.{cases_eq}
use Rattle.std.proofs.Math.Seq.{take-append_seam}
use Rattle.std.proofs.lemmas.List.{get_or_append_left, get_or-set_other, get_or-set_same, length-set}
use Rattle.std.proofs.lemmas.List.Elements.{All-contains, Contains-push, Contains-push_cases}
use Rattle.peg_semantics.specs.AbstractOutcomes.{Can, CanAll, seq_outcome, choice_outcome, star_outcome, not_outcome}
use Rattle.peg_check.specs.Cans.{can_of, can_at, nothing_known}
use Rattle.peg_check.specs.Dependencies.{dep_at, outcome_by, DependsOn}
use Rattle.peg_check.specs.Fixpoint.{union_of, updated_at}
use Rattle.peg_check.specs.declared.can.Can as code
use Rattle.peg_check.specs.declared.dependency.Dependency.{Dependency}
use Rattle.peg_check.specs.declared.dependency.Dependency.TheVariants as dep
use Rattle.peg_check.proofs.OutcomeTables.{IsClosed, added-more}

-- a link depends on this form, or gives the same outcomes whatever this form's are
module _ (f g : ℕ → Can) (number : ℕ) (same : (k : ℕ) → (k ≡ number → ⊥) → f k ≡ g k) where
  one : (part : ℕ) → (part ≡ number) ⊎ (f part ≡ g part)
  one part = elim (cases_eq part number) [ inl is ↦ inl is | inr other ↦ inr (same part other) ]

  goes_by-or-same : (l : Dependency) → DependsOn l number ⊎ (outcome_by f l ≡ outcome_by g l)
  goes_by-or-same (dep.Constant known) = inr refl
  goes_by-or-same (dep.Alias part) = one part
  goes_by-or-same (dep.Seq first rest) =
      elim (one first) [ inl is ↦ inl (inl is) | inr a ↦ elim (one rest) [ inl is ↦ inl (inr is) | inr b ↦ inr (λ i. seq_outcome (a i) (b i)) ] ]
  goes_by-or-same (dep.Choice first rest) =
      elim (one first) [ inl is ↦ inl (inl is) | inr a ↦ elim (one rest) [ inl is ↦ inl (inr is) | inr b ↦ inr (λ i. choice_outcome (a i) (b i)) ] ]
  goes_by-or-same (dep.Star part) = elim (one part) [ inl is ↦ inl is | inr a ↦ inr (λ i. star_outcome (a i)) ]
  goes_by-or-same (dep.Not part) = elim (one part) [ inl is ↦ inl is | inr a ↦ inr (λ i. not_outcome (a i)) ]

module _ (count : ℕ) (deps : List Dependency) where
  -- each form is pending, or has all outcomes that follow by its link
  abbrev pub AreAwaited : List code.Can → List ℕ → Type 0
  AreAwaited cans pending = (k : ℕ) → k < count → Contains pending k ⊎ IsClosed cans (dep_at deps k) k

  module _ (cans : List code.Can) (number : ℕ) (within : number < length cans) (pending rest : List ℕ)
      (taken : pending ≡ rest ++ number ∷ []) (awaited : AreAwaited cans pending) where
    -- an update gives a form the outcomes that follow by its link
    has-looked : CanAll (outcome_by (can_at cans) (dep_at deps number)) (can_at (updated_at cans (dep_at deps number) number) number)
    has-looked =
        let known = get_or cans number nothing_known in
        let can = outcome_by (can_at cans) (dep_at deps number) in
        subst (λ (v : code.Can). CanAll can (can_of v)) (sym (get_or-set_same cans number (union_of known can) nothing_known within))
        (added-more known can)

    -- nothing new: the form has all outcomes that follow
    pub awaited-same : updated_at cans (dep_at deps number) number ≡ cans → AreAwaited cans rest
    awaited-same same k below = by (awaited k below)
      where
        by : Contains pending k ⊎ IsClosed cans (dep_at deps k) k → Contains rest k ⊎ IsClosed cans (dep_at deps k) k
        by (inr closed) = inr closed
        by (inl had) = elim (Contains-push_cases rest number k (subst (λ (l : List ℕ). Contains l k) taken had)) [ inl still ↦ inl still | inr is ↦ inr (subst (λ j. IsClosed cans (dep_at deps j) j) is (subst (λ (after : List code.Can). CanAll (outcome_by (can_at cans) (dep_at deps number)) (can_at after number)) same has-looked)) ]

    -- something new: the forms that depend on it are pending again
    pub awaited-more : (after : List ℕ) → ((k : ℕ) → Contains rest k → Contains after k)
        → ((k : ℕ) → k < count → DependsOn (dep_at deps k) number → Contains after k)
        → AreAwaited (updated_at cans (dep_at deps number) number) after
    awaited-more after kept dependents k below =
        by (goes_by-or-same (can_at (updated_at cans (dep_at deps number) number)) (can_at cans) number other (dep_at deps k)) (cases_eq k number) (awaited k below)
      where
        other : (j : ℕ) → (j ≡ number → ⊥) → can_at (updated_at cans (dep_at deps number) number) j ≡ can_at cans j
        other j differs =
            let can = outcome_by (can_at cans) (dep_at deps number) in
            ap can_of (get_or-set_other cans number j (union_of (get_or cans number nothing_known) can) nothing_known differs)

        by : DependsOn (dep_at deps k) number ⊎ (outcome_by (can_at (updated_at cans (dep_at deps number) number)) (dep_at deps k) ≡ outcome_by (can_at cans) (dep_at deps k))
            → (k ≡ number) ⊎ (k ≡ number → ⊥) → Contains pending k ⊎ IsClosed cans (dep_at deps k) k
            → Contains after k ⊎ IsClosed (updated_at cans (dep_at deps number) number) (dep_at deps k) k
        by (inl goes) _ _ = inl (dependents k below goes)
        by (inr same) (inl is) _ =
            inr (subst (λ v. CanAll v (can_at (updated_at cans (dep_at deps number) number) k)) (sym same) (subst (λ j. CanAll (outcome_by (can_at cans) (dep_at deps j)) (can_at (updated_at cans (dep_at deps number) number) j)) (sym is) has-looked))
        by (inr same) (inr differs) (inl had) =
            elim (Contains-push_cases rest number k (subst (λ (l : List ℕ). Contains l k) taken had)) [ inl still ↦ inl (kept k still) | inr is ↦ absurd (differs (sym is)) ]
        by (inr same) (inr differs) (inr closed) =
            inr (subst (λ v. CanAll v (can_at (updated_at cans (dep_at deps number) number) k)) (sym same) (subst (CanAll (outcome_by (can_at cans) (dep_at deps k))) (sym (other k differs)) closed))

-- ---- one form is taken from the list

pub all_taken : (P : ℕ → Type 0) (pending rest : List ℕ) (number : ℕ) → pending ≡ rest ++ number ∷ [] → All P pending
    → All P rest
all_taken P pending rest number taken all k d below =
    let longer : k < length pending = omega (arith, ap length taken, length-append rest (number ∷ [])) in
    subst P (ap (λ (l : List ℕ). get_or l k d) taken ∙ get_or_append_left rest (number ∷ []) d k below) (all k d longer)

pub last_taken : (P : ℕ → Type 0) (pending rest : List ℕ) (number : ℕ) → pending ≡ rest ++ number ∷ [] → All P pending
    → P number
last_taken P pending rest number taken all =
    All-contains P pending number all (subst (λ (l : List ℕ). Contains l number) (sym taken) (Contains-push rest number))

-- the entries after an update, as a slice of all of them
pub whole-looked : (n number : ℕ) (items now new : List code.Can) (l m : Dependency) → n ≡ length items → now ≡ items → l ≡ m
    → new ≡ updated_at now l number → take n (new ++ drop (length new) items) ≡ updated_at items m number
whole-looked n number items now new l m counted same is looked =
    let all : new ≡ updated_at items m number = looked ∙ (λ i. updated_at (same i) (is i) number) in
    let many : length new ≡ length items = ap length all ∙ length-set items number (union_of (get_or items number nothing_known) (outcome_by (can_at items) m)) in
    ap (λ k. take k (new ++ drop (length new) items)) (counted ∙ sym many)
    ∙ (take-append_seam new (drop (length new) items) ∙ all)

pub whole-same : (n : ℕ) (items new : List code.Can) → n ≡ length items → new ≡ items
    → take n (new ++ drop (length new) items) ≡ items
whole-same n items new counted same =
    ap (λ k. take k (new ++ drop (length new) items)) (counted ∙ ap length (sym same))
    ∙ (take-append_seam new (drop (length new) items) ∙ same)
