-- The iterations of a count that are left out. They change nothing that repeats a part built of empty expressions alone.
use Rattle.std.proofs.Common.{◌≡◌, ℕ, zero, suc, ◌-◌, Bool, true, false, ◌&&◌, if◌then◌else◌, refl, ap, ◌∙◌, arith}
use Rattle.peg_core.specs.CoreForm.{CoreForm, is_all_empty, left_out}

both_left : (a b : Bool) → (a && b) ≡ true → a ≡ true
both_left true b e = refl
both_left false b e = cc

both_right : (a b : Bool) → (a && b) ≡ true → b ≡ true
both_right true b e = e
both_right false b e = cc

-- the parts of a sequence of empty expressions
pub first-all_empty : (a b : CoreForm) → (is_all_empty a && is_all_empty b) ≡ true → is_all_empty a ≡ true
first-all_empty a b e = both_left (is_all_empty a) (is_all_empty b) e

pub rest-all_empty : (a b : CoreForm) → (is_all_empty a && is_all_empty b) ≡ true → is_all_empty b ≡ true
rest-all_empty a b e = both_right (is_all_empty a) (is_all_empty b) e

-- a value by the numbers of a count, which stays if an iteration that must match after another is left out
module _ {A : Type 0} (repeat : (min max : ℕ) → A) where
  abbrev pub LastIsLeftOut : Type 0
  LastIsLeftOut = (min : ℕ) → repeat (suc (suc min)) 1 ≡ repeat 1 1

  abbrev pub OneIsLeftOut : Type 0
  OneIsLeftOut = (min max : ℕ) → repeat (suc (suc min)) (suc (suc max)) ≡ repeat (suc min) (suc max)

  module _ (last : LastIsLeftOut) (one : OneIsLeftOut) where
    first-stays : (min max : ℕ) → repeat (suc min) (suc max) ≡ repeat 1 (suc (max - min))
    first-stays zero max = ap (λ k. repeat 1 (suc k)) (omega arith)
    first-stays (suc min) zero = last min ∙ ap (λ k. repeat 1 (suc k)) (omega arith)
    first-stays (suc min) (suc max) = one min max ∙ (first-stays min max ∙ ap (λ k. repeat 1 (suc k)) (omega arith))

    all_left_out : (min max : ℕ) → repeat min (suc max) ≡ repeat (min - (min - 1)) (suc (max - (min - 1)))
    all_left_out zero max =
        let least : 0 ≡ 0 - (0 - 1) = omega arith in
        let most : max ≡ max - (0 - 1) = omega arith in
        λ i. repeat (least i) (suc (most i))
    all_left_out (suc min) max =
        let least : 1 ≡ suc min - (suc min - 1) = omega arith in
        let most : max - min ≡ max - (suc min - 1) = omega arith in
        first-stays min max ∙ (λ i. repeat (least i) (suc (most i)))

  pub left_out-same : (part : CoreForm) → (is_all_empty part ≡ true → LastIsLeftOut) → (is_all_empty part ≡ true → OneIsLeftOut)
      → (min max : ℕ) → repeat min (suc max) ≡ repeat (min - left_out part min) (suc (max - left_out part min))
  left_out-same part last one min max = by (is_all_empty part) refl
    where
      by : (b : Bool) → is_all_empty part ≡ b
          → repeat min (suc max) ≡ repeat (min - (if b then min - 1 else 0)) (suc (max - (if b then min - 1 else 0)))
      by true is = all_left_out (last is) (one is) min max
      by false is =
          let least : min ≡ min - 0 = omega arith in
          let most : max ≡ max - 0 = omega arith in
          λ i. repeat (least i) (suc (most i))
