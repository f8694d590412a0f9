-- The position of a number in an ascending list.
use Rattle.std.proofs.Common.{◌≡◌, ℕ, zero, suc, ◌+◌, ◌<◌, ◌≤◌, Bool, true, false, List, [], ◌∷◌, ◌++◌, length, get_or, All, nat_lt, ◌==◌, inl, inr, le_refl, le_of_lt, refl, ap, subst, suc-add, ◌∙◌, if◌then◌else◌, arith}
use Rattle.std.proofs.lemmas.Bool.{cases_eq}
use Rattle.std.proofs.lemmas.Bool.Decides.{nat_tests}
use Rattle.std.proofs.lemmas.List.Kept.{AllPairs-from_increasing}
use Rattle.std.specs.List.{insert}
use Rattle.std.specs.List.Sorted.{IsStrictlyIncreasing}
use Rattle.peg_semantics.specs.FurthestPass.{insert_ascending}

-- ---- numbers that rise, the first at least `low`

abbrev pub RisesFrom : ℕ → List ℕ → Type 0
RisesFrom low [] = Unit {0}
RisesFrom low (x ∷ xs) = (low ≤ x) × RisesFrom (suc x) xs

RisesFrom-choice : (n low x : ℕ) (xs more : List ℕ) → low ≤ n → RisesFrom low (x ∷ xs) → (suc x ≤ n → RisesFrom (suc x) more) → (b e : Bool) → nat_lt n x ≡ b → (n == x) ≡ e
    → RisesFrom low (if b then n ∷ x ∷ xs else (if e then x ∷ xs else x ∷ more))
RisesFrom-choice n low x xs more h r k true e p q = (h, (grind (arith, nat_tests), r.1))
RisesFrom-choice n low x xs more h r k false true p q = r
RisesFrom-choice n low x xs more h r k false false p q = (r.0, k (grind (arith, nat_tests)))

pub RisesFrom-insert : (n low : ℕ) (xs : List ℕ) → low ≤ n → RisesFrom low xs → RisesFrom low (insert_ascending n xs)
RisesFrom-insert n low [] h r = (h, tt)
RisesFrom-insert n low (x ∷ xs) h r =
    RisesFrom-choice n low x xs (insert_ascending n xs) h r (λ above. RisesFrom-insert n (suc x) xs above r.1) (nat_lt n x) (n == x) refl refl

pub RisesFrom-to_increasing : (low : ℕ) (xs : List ℕ) → RisesFrom low xs → IsStrictlyIncreasing xs
RisesFrom-to_increasing low [] r k h = absurd (omega arith)
RisesFrom-to_increasing low (x ∷ []) r k h = absurd (omega arith)
RisesFrom-to_increasing low (x ∷ y ∷ ys) r zero h = r.1.0
RisesFrom-to_increasing low (x ∷ y ∷ ys) r (suc k) h = rw suc-add (RisesFrom-to_increasing (suc x) (y ∷ ys) r.1 k (omega arith))

RisesFrom-from_increasing : (low : ℕ) (xs : List ℕ) → (0 < length xs → low ≤ get_or xs 0 0) → IsStrictlyIncreasing xs → RisesFrom low xs
RisesFrom-from_increasing low [] first h = tt
RisesFrom-from_increasing low (x ∷ []) first h = (first (omega arith), tt)
RisesFrom-from_increasing low (x ∷ y ∷ ys) first h =
    (first (omega arith), RisesFrom-from_increasing (suc x) (y ∷ ys) (λ some. h 0 (omega arith)) (λ k within. let e : suc k + 1 ≡ suc (k + 1) = omega arith in subst (λ n. get_or (y ∷ ys) k 0 < get_or (x ∷ y ∷ ys) n 0) e (h (suc k) (omega arith))))

-- ---- insertion into an ascending list

pub IsStrictlyIncreasing-insert : (n : ℕ) (xs : List ℕ) → IsStrictlyIncreasing xs → IsStrictlyIncreasing (insert_ascending n xs)
IsStrictlyIncreasing-insert n xs h =
    RisesFrom-to_increasing 0 (insert_ascending n xs) (RisesFrom-insert n 0 xs (omega arith) (RisesFrom-from_increasing 0 xs (λ some. omega arith) h))

-- an ascending list does not fall
pub increasing-rises : (xs : List ℕ) → IsStrictlyIncreasing xs → (i j d : ℕ) → i ≤ j → j < length xs → get_or xs i d ≤ get_or xs j d
increasing-rises xs h i j d le within =
    elim (cases_eq i j) [ inl same ↦ subst (λ k. get_or xs i d ≤ get_or xs k d) same (le_refl (get_or xs i d)) | inr apart ↦ le_of_lt (AllPairs-from_increasing xs h i j d (omega arith) within) ]

-- the numbers before a number of the list are smaller
pub increasing-below : (xs : List ℕ) → IsStrictlyIncreasing xs → (i k : ℕ) → i < length xs → k < i → get_or xs k 0 < get_or xs i 0
increasing-below xs h i k within below = AllPairs-from_increasing xs h k i 0 below within

insert_ascending-before : (n x : ℕ) (xs : List ℕ) → n < x → insert_ascending n (x ∷ xs) ≡ n ∷ x ∷ xs
insert_ascending-before n x xs h = grind (arith, nat_tests)

insert_ascending-same : (n x : ℕ) (xs : List ℕ) → x ≡ n → insert_ascending n (x ∷ xs) ≡ x ∷ xs
insert_ascending-same n x xs h = grind (arith, nat_tests)

insert_ascending-following : (n x : ℕ) (xs : List ℕ) → x < n → insert_ascending n (x ∷ xs) ≡ x ∷ insert_ascending n xs
insert_ascending-following n x xs h = grind (arith, nat_tests)

-- a number in the list is not inserted again
pub insert_ascending-there : (n i : ℕ) (xs : List ℕ) → i < length xs → get_or xs i 0 ≡ n → ((k : ℕ) → k < i → get_or xs k 0 < n) → insert_ascending n xs ≡ xs
insert_ascending-there n i [] within e below = absurd (omega arith)
insert_ascending-there n zero (x ∷ xs) within e below = insert_ascending-same n x xs e
insert_ascending-there n (suc i) (x ∷ xs) within e below =
    insert_ascending-following n x xs (below 0 (omega arith)) ∙ ap (λ l. x ∷ l) (insert_ascending-there n i xs (omega arith) e (λ k lt. below (suc k) (omega arith)))

-- a number not in the list goes between the smaller and the greater ones
pub insert_ascending-between : (n i : ℕ) (xs : List ℕ) → i ≤ length xs → ((k : ℕ) → k < i → get_or xs k 0 < n) → (i < length xs → n < get_or xs i 0) → insert_ascending n xs ≡ insert xs i n
insert_ascending-between n zero [] within below above = refl
insert_ascending-between n (suc i) [] within below above = absurd (omega arith)
insert_ascending-between n zero (x ∷ xs) within below above = insert_ascending-before n x xs (above (omega arith))
insert_ascending-between n (suc i) (x ∷ xs) within below above =
    insert_ascending-following n x xs (below 0 (omega arith)) ∙ ap (λ l. x ∷ l) (insert_ascending-between n i xs (omega arith) (λ k lt. below (suc k) (omega arith)) (λ some. above (omega arith)))

-- a number above all others is appended
pub insert_ascending-last : (n : ℕ) (xs : List ℕ) → All (λ m. m < n) xs → insert_ascending n xs ≡ xs ++ n ∷ []
insert_ascending-last n [] all = refl
insert_ascending-last n (x ∷ xs) all =
    insert_ascending-following n x xs (all 0 0 (omega arith)) ∙ ap (λ l. x ∷ l) (insert_ascending-last n xs (λ k d lt. all (suc k) d (omega arith)))
