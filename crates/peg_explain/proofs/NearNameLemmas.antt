-- Names that differ in one place.
use Rattle.std.proofs.Common.{◌≡◌, ◌≢◌, ◌+◌, ◌<◌, ◌==◌, ℕ, List, [], ◌∷◌, drop, get_or, length, suc, zero, arith, refl}
use Rattle.std.proofs.lemmas.Bool.{eq-eqb, ne_eqb}
use Rattle.peg_explain.specs.NearNames.{is_near, near_at_start}

-- one more byte that two texts begin with
pub near-more : (one other : List ℕ) (at : ℕ) → at < length one → at < length other
    → get_or one at 0 ≡ get_or other at 0
    → is_near (drop at one) (drop at other) ≡ is_near (drop (suc at) one) (drop (suc at) other)
near-more [] other at in_one in_other same = absurd (omega (arith, in_one))
near-more (x ∷ one) [] at in_one in_other same = absurd (omega (arith, in_other))
near-more (x ∷ one) (y ∷ other) zero in_one in_other same = rw (eq-eqb x y same) refl
near-more (x ∷ one) (y ∷ other) (suc at) in_one in_other same =
    near-more one other at (omega (arith, in_one)) (omega (arith, in_other)) same

-- the end of what two texts begin with
pub near-end : (one other : List ℕ) (at : ℕ)
    → (at < length one → at < length other → get_or one at 0 ≢ get_or other at 0)
    → is_near (drop at one) (drop at other) ≡ near_at_start (drop at one) (drop at other)
near-end [] other zero differ = refl
near-end [] other (suc at) differ = refl
near-end (x ∷ one) [] zero differ = refl
near-end (x ∷ one) [] (suc at) differ = ends (drop at one)
  where
    ends : (rest : List ℕ) → is_near rest [] ≡ near_at_start rest []
    ends [] = refl
    ends (z ∷ rest) = refl
near-end (x ∷ one) (y ∷ other) zero differ = rw (ne_eqb x y (differ (omega arith) (omega arith))) refl
near-end (x ∷ one) (y ∷ other) (suc at) differ =
    near-end one other at (λ in_one in_other. differ (omega (arith, in_one)) (omega (arith, in_other)))
