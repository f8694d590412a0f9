-- Rules that are flagged.
use Rattle.std.proofs.Common.{◌≡◌, ◌∙◌, ℕ, ◌+◌, ◌<◌, ◌==◌, Bool, true, false, ◌&&◌, ◌||◌, List, [], ◌∷◌, ◌++◌, ap, arith, eq-eqb}
use Rattle.std.proofs.Common.{inl, inr, length, not, refl, set, sym}
use Rattle.std.proofs.lemmas.Bool.{cases_eq, ne_eqb}
use Rattle.std.proofs.lemmas.List.{get_or-set_other, get_or-set_same, map-id}
use Rattle.std.proofs.lemmas.List.Folds.{list_any-append}
use Rattle.std.proofs.lemmas.List.FromFn.{map-range_with_len_more}
use Rattle.std.specs.List.{list_any, range_with_len}
use Rattle.peg_spacing.specs.Spacing.{has_flag}

pub or-false : (b : Bool) → (b || false) ≡ b
or-false true = refl
or-false false = refl

pub or-true : (b : Bool) → (b || true) ≡ true
or-true true = refl
or-true false = refl

pub or-three : (a b c : Bool) → ((a || b) || c) ≡ (a || (b || c))
or-three true b c = refl
or-three false b c = refl

-- one more number is searched
pub any-more : (test : ℕ → Bool) (n : ℕ)
    → (list_any test (range_with_len 0 n) || test n) ≡ list_any test (range_with_len 0 (n + 1))
any-more test n =
    let at : 0 + n ≡ n = omega arith in
    let numbers : range_with_len 0 (n + 1) ≡ range_with_len 0 n ++ n ∷ [] =
    sym (map-id (range_with_len 0 (n + 1)))
    ∙ map-range_with_len_more (λ (k : ℕ). k) 0 n n at
    ∙ ap (λ (l : List ℕ). l ++ n ∷ []) (map-id (range_with_len 0 n)) in
    sym (ap (list_any test) numbers
    ∙ list_any-append test (range_with_len 0 n) (n ∷ [])
    ∙ ap (λ (b : Bool). list_any test (range_with_len 0 n) || b) (or-false (test n)))

-- a flag is added
pub flag-added : (flags : List Bool) (rule other : ℕ) → rule < length flags
    → has_flag (set flags rule true) other ≡ (has_flag flags other || rule == other)
flag-added flags rule other within =
    elim (cases_eq other rule) [
      | inl same ↦
          ap (λ (k : ℕ). has_flag (set flags rule true) k) same ∙ get_or-set_same flags rule true false within
          ∙ sym (ap (λ (b : Bool). has_flag flags other || b) (eq-eqb rule other (sym same)) ∙ or-true (has_flag flags other))
      | inr differs ↦
          get_or-set_other flags rule other true false differs
          ∙ sym (ap (λ (b : Bool). has_flag flags other || b) (ne_eqb rule other (λ same. differs (sym same)))
          ∙ or-false (has_flag flags other))
    ]

-- a flag is as it was, and all others are added
pub flag-restored : (old new : List Bool) (rule other : ℕ) (more : Bool) → rule < length new
    → has_flag new other ≡ (has_flag old other || more)
    → has_flag (set new rule (has_flag old rule)) other ≡ (has_flag old other || (not (rule == other) && more))
flag-restored old new rule other more within is =
    elim (cases_eq other rule) [
      | inl same ↦
          ap (λ (k : ℕ). has_flag (set new rule (has_flag old rule)) k) same
          ∙ get_or-set_same new rule (has_flag old rule) false within
          ∙ ap (has_flag old) (sym same)
          ∙ sym (ap (λ (b : Bool). has_flag old other || (not b && more)) (eq-eqb rule other (sym same))
          ∙ or-false (has_flag old other))
      | inr differs ↦
          get_or-set_other new rule other (has_flag old rule) false differs ∙ is
          ∙ sym (ap (λ (b : Bool). has_flag old other || (not b && more)) (ne_eqb rule other (λ same. differs (sym same))))
    ]
