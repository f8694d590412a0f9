-- The indices of listed terminals, and the failed tests among them.
use Rattle.std.proofs.Common.{◌≡◌, ℕ, zero, suc, ◌+◌, ◌<◌, Bool, true, false, cond, List, [], ◌∷◌, inl, inr, All}
use Rattle.std.proofs.Common.{Contains, Option, None, Some, option_map, length, filter_map, get_or, refl, sym, ap, subst}
use Rattle.std.proofs.Common.{◌∙◌, ◌==◌, arith}
use Rattle.std.proofs.lemmas.Bool.{cases_lt}
use Rattle.std.proofs.lemmas.Bool.Decides.{nat_tests}
use Rattle.std.proofs.lemmas.List.Elements.{All-cons, All-nil, Contains-append_right}
use Rattle.std.specs.List.{cons_option, position_from}
use Rattle.std.specs.List.Sorted.{IsStrictlyIncreasing}
use Rattle.peg_semantics.specs.Record.{Test, test_of}
use Rattle.peg_semantics.specs.TestsAmong.{index_in, tests_among}
use Rattle.peg_semantics.proofs.Ascending.{increasing-below}

-- ---- the index of a terminal in a list

-- a number is where it is found
found-reads : (n first : ℕ) (xs : List ℕ) (k : ℕ) → position_from (λ x. x == n) first xs ≡ Some k
    → (j : ℕ) × (k ≡ first + j) × (j < length xs) × (get_or xs j 0 ≡ n)
found-reads n first [] k is = cc
found-reads n first (x ∷ xs) k is = by (x == n) refl (found-reads n (first + 1) xs k) is
  where
    by : (b : Bool) → (x == n) ≡ b
        → (position_from (λ x. x == n) (first + 1) xs ≡ Some k
        → (j : ℕ) × (k ≡ first + 1 + j) × (j < length xs) × (get_or xs j 0 ≡ n))
        → cond b (Some first) (position_from (λ x. x == n) (first + 1) xs) ≡ Some k
        → (j : ℕ) × (k ≡ first + j) × (j < length (x ∷ xs)) × (get_or (x ∷ xs) j 0 ≡ n)
    by true same later is =
        let here : first ≡ k = cc in
        let reads : x ≡ n = grind (arith, nat_tests) in (0, omega arith, omega arith, reads)
    by false apart later is =
        let at = later is in (suc at.0, omega (arith, at.1), omega (arith, at.2), at.3)

-- a number that isn't found isn't there
missing-differs : (n first : ℕ) (xs : List ℕ) → position_from (λ x. x == n) first xs ≡ None → (j : ℕ) → j < length xs
    → get_or xs j 0 ≡ n → ⊥
missing-differs n first [] is = λ j within reads. omega arith
missing-differs n first (x ∷ xs) is = by (x == n) refl (missing-differs n (first + 1) xs) is
  where
    by : (b : Bool) → (x == n) ≡ b
        → (position_from (λ x. x == n) (first + 1) xs ≡ None → (j : ℕ) → j < length xs → get_or xs j 0 ≡ n → ⊥)
        → cond b (Some first) (position_from (λ x. x == n) (first + 1) xs) ≡ None
        → (j : ℕ) → j < length (x ∷ xs) → get_or (x ∷ xs) j 0 ≡ n → ⊥
    by true same later is j within reads = let bad : Some first ≡ None = is in cc
    by false apart later is zero within reads = let same : x ≡ n = reads in grind (arith, nat_tests)
    by false apart later is (suc j) within reads = later is j (omega arith) reads

-- the index of a terminal is within the list, and the terminal is there
pub index-reads : (terminals : List ℕ) (terminal k : ℕ) → index_in terminals terminal ≡ Some k
    → (k < length terminals) × (get_or terminals k 0 ≡ terminal)
index-reads terminals terminal k is =
    let at = found-reads terminal 0 terminals k is in
    let same : at.0 ≡ k = omega (arith, at.1) in
    (omega (arith, at.2), ap (λ j. get_or terminals j 0) (sym same) ∙ at.3)

-- an ascending list has each number once
one_index : (xs : List ℕ) → IsStrictlyIncreasing xs → (i j : ℕ) → i < length xs → j < length xs
    → get_or xs i 0 ≡ get_or xs j 0 → i ≡ j
one_index xs rises i j in_i in_j same =
    elim (cases_lt i j) [
      | inl less ↦ let below = increasing-below xs rises j i in_j less in absurd (omega arith)
      | inr least ↦ elim (cases_lt j i) [
        | inl more ↦ let below = increasing-below xs rises i j in_i more in absurd (omega arith)
        | inr most ↦ omega arith
      ]
    ]

-- a terminal of an ascending list has the index where it is
pub index-at : (xs : List ℕ) → IsStrictlyIncreasing xs → (j : ℕ) → j < length xs
    → index_in xs (get_or xs j 0) ≡ Some j
index-at xs rises j within = by (index_in xs (get_or xs j 0)) refl
  where
    by : (found : Option ℕ) → index_in xs (get_or xs j 0) ≡ found → found ≡ Some j
    by None is = absurd (missing-differs (get_or xs j 0) 0 xs is j within refl)
    by (Some k) is =
        let at = index-reads xs (get_or xs j 0) k is in
        ap (λ (i : ℕ). Some i) (one_index xs rises k j at.0 within at.1)

-- ---- the failed tests

-- the terminals of failed tests among listed terminals are indices into the list
pub among-within : (terminals : List ℕ) (tests : List Test)
    → All (λ (test : Test). test.terminal < length terminals) (tests_among terminals tests)
among-within terminals [] = All-nil (λ (test : Test). test.terminal < length terminals)
among-within terminals (test ∷ tests) =
    by (index_in terminals test.terminal) refl (among-within terminals tests)
  where
    Within : Test → Type 0
    Within test = test.terminal < length terminals

    by : (found : Option ℕ) → index_in terminals test.terminal ≡ found → All Within (tests_among terminals tests)
        → All Within (cons_option (option_map (λ new. test_of new test.position) found) (tests_among terminals tests))
    by None is later = later
    by (Some k) is later =
        All-cons Within (test_of k test.position) (tests_among terminals tests)
        (index-reads terminals test.terminal k is).0 later

-- what an element becomes is an element
pub Contains-filter_map : (h : Test → Option Test) (xs : List Test) (x y : Test) → h x ≡ Some y → Contains xs x
    → Contains (filter_map h xs) y
Contains-filter_map h [] x y is has = absurd (omega (arith, has.1))
Contains-filter_map h (z ∷ zs) x y is (zero, within, same) =
    let there : h z ≡ Some y = ap h same ∙ is in
    subst (λ (o : Option Test). Contains (cons_option o (filter_map h zs)) y) (sym there)
    (0, omega arith, refl)
Contains-filter_map h (z ∷ zs) x y is (suc k, within, same) =
    by (h z) (Contains-filter_map h zs x y is (k, omega arith, same))
  where
    by : (o : Option Test) → Contains (filter_map h zs) y → Contains (cons_option o (filter_map h zs)) y
    by None later = later
    by (Some w) later = Contains-append_right (w ∷ []) (filter_map h zs) y later
