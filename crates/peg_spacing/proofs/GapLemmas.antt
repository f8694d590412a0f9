-- What expressions begin with.
use Rattle.std.proofs.Common.{◌≡◌, ◌∙◌, ℕ, zero, suc, ◌+◌, ◌<◌, Bool, true, false, ◌&&◌, List, [], ◌∷◌, ◌++◌, Some}
use Rattle.std.proofs.Common.{add-one, ap, arith, map, option_map, inl, inr, refl, slice_get, sym, take}
use Rattle.std.proofs.lemmas.Bool.{cases_lt}
use Rattle.peg_semantics.specs.Form.{Form}
use Rattle.peg_semantics.specs.Rules.{Rule}
use Rattle.peg_spacing.specs.Gaps.{all_below, either_gap}
use Rattle.peg_spacing.specs.declared.gaps.Gap.{Gap}
use Rattle.peg_spacing.specs.declared.gaps.Gap.TheVariants.{Blanks, Comment, Other}

-- ---- alternatives

pub either-comment : (gap : Gap) → either_gap Comment gap ≡ gap
either-comment Blanks = refl
either-comment Comment = refl
either-comment Other = refl

pub either-none : (gap : Gap) → either_gap gap Comment ≡ gap
either-none Blanks = refl
either-none Comment = refl
either-none Other = refl

pub either-assoc : (a b c : Gap) → either_gap (either_gap a b) c ≡ either_gap a (either_gap b c)
either-assoc Other b c = refl
either-assoc Blanks Other c = refl
either-assoc Blanks Blanks Blanks = refl
either-assoc Blanks Blanks Comment = refl
either-assoc Blanks Blanks Other = refl
either-assoc Blanks Comment Blanks = refl
either-assoc Blanks Comment Comment = refl
either-assoc Blanks Comment Other = refl
either-assoc Comment Other c = refl
either-assoc Comment Blanks Blanks = refl
either-assoc Comment Blanks Comment = refl
either-assoc Comment Blanks Other = refl
either-assoc Comment Comment Blanks = refl
either-assoc Comment Comment Comment = refl
either-assoc Comment Comment Other = refl

-- ---- tests of all bytes

and-true : (a b : Bool) → a ≡ true → b ≡ true → (a && b) ≡ true
and-true true true first second = refl
and-true true false first second = second
and-true false b first second = first

and-false : (a b : Bool) → b ≡ false → (a && b) ≡ false
and-false true b is = is
and-false false b is = refl

-- one more number passes
pub below-more : (test : ℕ → Bool) (n : ℕ) → all_below test n ≡ true → test n ≡ true → all_below test (n + 1) ≡ true
below-more test n so_far here = ap (all_below test) (add-one n) ∙ and-true (all_below test n) (test n) so_far here

-- one number doesn't pass
pub below-fails : (test : ℕ → Bool) (n k : ℕ) → k < n → test k ≡ false → all_below test n ≡ false
below-fails test zero k less fails = absurd (omega (arith, less))
below-fails test (suc n) k less fails =
    elim (cases_lt k n) [
      | inl before ↦ ap (λ (b : Bool). b && test n) (below-fails test n k before fails)
      | inr after ↦
          let same : n ≡ k = omega (arith, less, after) in
          and-false (all_below test n) (test n) (ap test same ∙ fails)
    ]

-- ---- rules one after the other

-- one more rule is mapped by its expression
pub bodies-more : {X : Type 0} (f : Form → X) (rules : List Rule) (i : ℕ) (e : Form)
    → option_map (λ (r : Rule). r.body) (slice_get rules i) ≡ Some e
    → map (λ (r : Rule). f r.body) (take i rules) ++ f e ∷ [] ≡ map (λ (r : Rule). f r.body) (take (i + 1) rules)
bodies-more {X = X} f rules i e is = by rules i is ∙ ap (λ (n : ℕ). map (λ (r : Rule). f r.body) (take n rules)) (sym (add-one i))
  where
    by : (rs : List Rule) (k : ℕ) → option_map (λ (r : Rule). r.body) (slice_get rs k) ≡ Some e
        → map (λ (r : Rule). f r.body) (take k rs) ++ f e ∷ [] ≡ map (λ (r : Rule). f r.body) (take (suc k) rs)
    by [] k none = absurd cc
    by (r ∷ rs) zero here = let same : e ≡ r.body = cc in ap (λ (b : Form). f b ∷ []) same
    by (r ∷ rs) (suc k) here = ap (λ (l : List X). f r.body ∷ l) (by rs k here)
