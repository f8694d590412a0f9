-- A result that shows neither 0 nor 1 is a failure.
use Rattle.std.proofs.Common.{◌≡◌, ℕ, ◌<◌, ◌≤◌, inl, inr, Bool, true, false, not, ◌||◌, IsTrue, refl, ap, arith}
use Rattle.std.proofs.lemmas.Bool.{cases_lt}
use Rattle.peg_tree.specs.Trees.{Trees}
use Rattle.peg_semantics.specs.Record.{Recognition, Failed, Matched}

pub is_failed : (position : ℕ) (x : Recognition)
    → ((end : ℕ) (trees : Trees) → x ≡ Matched end trees → position ≤ end)
    → ((trees : Trees) → x ≡ Matched position trees → ⊥)
    → ((end : ℕ) (trees : Trees) → x ≡ Matched end trees → position < end → ⊥)
    → x ≡ Failed
is_failed position Failed onward nothing something = refl
is_failed position (Matched end trees) onward nothing something =
    elim (cases_lt position end) [
      | inl more ↦ absurd (something end trees refl more)
      | inr less ↦
          let low = onward end trees refl in
          let same : end ≡ position = omega (arith, low, less) in
          absurd (nothing trees (ap (λ n. Matched n trees) same))
    ]

-- outcomes that exclude success have neither 0 nor 1
pub no_success : (nothing something can : Bool) → can ≡ (nothing || something) → IsTrue (not can)
    → (nothing ≡ true → ⊥) × (something ≡ true → ⊥)
no_success true something true e h = absurd (let bad : false ≡ true = h in cc)
no_success true something false e h = absurd (let bad : false ≡ true = e in cc)
no_success false true true e h = absurd (let bad : false ≡ true = h in cc)
no_success false true false e h = absurd (let bad : false ≡ true = e in cc)
no_success false false can e h = (λ bad. cc, λ bad. cc)

-- outcomes without 0 and 1 exclude success
pub success_excluded : (nothing something can : Bool) → can ≡ (nothing || something) → (nothing ≡ true → ⊥)
    → (something ≡ true → ⊥) → IsTrue (not can)
success_excluded true something can e none nor = absurd (none refl)
success_excluded false true can e none nor = absurd (nor refl)
success_excluded false false can e none nor = ap not e

-- a test that isn't true
pub not_true : (b : Bool) → (b ≡ true → ⊥) → IsTrue (not b)
not_true true none = absurd (none refl)
not_true false none = refl

pub true_not : (b : Bool) → IsTrue (not b) → b ≡ true → ⊥
true_not true h same = let bad : false ≡ true = h in cc
true_not false h same = cc
