-- The link of each kind of core form gives the same outcomes as Ford's rules.
use Rattle.std.proofs.Common.{◌≡◌, ℕ, zero, suc, ◌<◌, ◌≤◌, ◌↔◌, ◌⊎◌, inl, inr, Bool, true, false, not, List, [], ◌∷◌, ◌++◌, length, get_or, slice_get, option_map, Some, IsTrue, refl, sym, ap, ◌∙◌, subst, arith, length-append}
use Rattle.std.proofs.lemmas.Bool.{cases_lt}
use Rattle.std.proofs.lemmas.List.{get_or_append_left, get_or_at}
use Rattle.std.proofs.lemmas.Option.{slice_get-map}
use Rattle.peg_bytes.specs.ByteSet.{Bytes, has, has_some}
use Rattle.peg_core.specs.CoreForm.{Rule}
use Rattle.peg_core.specs.CoreOutcomes.{CoreOutcomeOf, outcome_of_body, core_can_table}
use Rattle.peg_core.specs.Layout.{bodies_of, Desugared, form_at}
use Rattle.peg_check.specs.Dependencies.{IsDependencyOf, AreDependencies}
use Rattle.peg_check.specs.declared.dependency.Dependency.{Dependency}

-- an empty set contains no byte
none_has : (set : Bytes) → ((byte : ℕ) → has set byte ≡ false) → has_some set ≡ false
none_has [] none = refl
none_has (true ∷ set) none = none 0
none_has (false ∷ set) none = none_has set (λ byte. none (suc byte))

has_none : (set : Bytes) → has_some set ≡ false → (byte : ℕ) → has set byte ≡ false
has_none [] none byte = refl
has_none (true ∷ set) none byte = cc
has_none (false ∷ set) none zero = refl
has_none (false ∷ set) none (suc byte) = has_none set none byte

-- a test of the empty set can only fail
pub not-empty : (set : Bytes) (empty : Bool) → (IsTrue empty ↔ ((byte : ℕ) → has set byte ≡ false))
    → not empty ≡ has_some set
not-empty set true is = sym (none_has set (is.0 refl))
not-empty set false is = by (has_some set) refl
  where
    by : (some : Bool) → has_some set ≡ some → not false ≡ has_some set
    by true e = sym e
    by false e = let bad : false ≡ true = is.1 (has_none set e) in cc

-- a call of a rule has the outcomes of the rule's body
pub rule-is : (core : Desugared) (check_core : CoreOutcomeOf) (rule body : ℕ) → slice_get core.bodies rule ≡ Some body
    → core_can_table (bodies_of core) check_core (Rule rule) ≡ check_core (form_at core.forms body)
rule-is core check_core rule body there =
    ap (outcome_of_body check_core) (slice_get-map (form_at core.forms) core.bodies rule ∙ ap (option_map (form_at core.forms)) there)

-- one more link
pub AreDependencies-push : (core : Desugared) (deps : List Dependency) (l : Dependency) → AreDependencies core deps
    → IsDependencyOf core (form_at core.forms (length deps)) l → AreDependencies core (deps ++ l ∷ [])
AreDependencies-push core deps l linked here k d within = by (cases_lt k (length deps))
  where
    by : (k < length deps) ⊎ (length deps ≤ k) → IsDependencyOf core (form_at core.forms k) (get_or (deps ++ l ∷ []) k d)
    by (inl before) =
        subst (IsDependencyOf core (form_at core.forms k)) (sym (get_or_append_left deps (l ∷ []) d k before)) (linked k d before)
    by (inr past) =
        let last : length deps ≡ k = omega (arith, length-append deps (l ∷ [])) in
        subst (IsDependencyOf core (form_at core.forms k)) (sym (get_or_at deps l [] d k last))
        (subst (λ n. IsDependencyOf core (form_at core.forms n) l) last here)
