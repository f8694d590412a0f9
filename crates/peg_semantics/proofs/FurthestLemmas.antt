-- One pass over the failed tests computes their furthest failure.
use Rattle.std.proofs.Common.{◌≡◌, ℕ, ◌<◌, ◌≤◌, Bool, true, false, List, [], ◌∷◌, ◌++◌, All, Contains, fold, nat_lt, ◌==◌, ◌⊎◌, inl, inr, refl, sym, ap, subst, le_refl, le_trans, le_of_lt, append_assoc, append-nil, if◌then◌else◌, arith}
use Rattle.std.proofs.lemmas.List.Elements.{Contains-append_left, Contains-append_right, Contains-append_cases, Contains-push, Contains-push_cases, All-contains, All-push}
use Rattle.std.proofs.lemmas.Bool.Decides.{nat_tests}
use Rattle.peg_semantics.specs.Record.{Test}
use Rattle.peg_semantics.specs.Furthest.{IsFurthest}
use Rattle.peg_semantics.specs.FurthestPass.{Furthest, insert_ascending, note_test, nothing_failed, furthest_of}
use Rattle.peg_semantics.proofs.Ascending.{RisesFrom, RisesFrom-insert, RisesFrom-to_increasing}

Contains-none : {X : Type 0} (x : X) → Contains [] x → ⊥
Contains-none x h = omega (arith, h.1)

Contains-here : {X : Type 0} (xs : List X) (x : X) → Contains (x ∷ xs) x
Contains-here xs x = Contains-append_left (x ∷ []) xs x (Contains-push [] x)

Contains-later : {X : Type 0} (xs : List X) (y x : X) → Contains xs x → Contains (y ∷ xs) x
Contains-later xs y x h = Contains-append_right (y ∷ []) xs x h

-- an element of a list is the first or one of the rest
Contains-cons_cases : {X : Type 0} (xs : List X) (y x : X) → Contains (y ∷ xs) x → (y ≡ x) ⊎ Contains xs x
Contains-cons_cases xs y x h =
    elim (Contains-append_cases (y ∷ []) xs x h) [ inl a ↦ elim (Contains-push_cases [] y x a) [ inl b ↦ absurd (Contains-none x b) | inr b ↦ inl b ] | inr a ↦ inr a ]

-- after insertion, the list has the number and exactly the numbers before
Contains-insert_new : (n : ℕ) (xs : List ℕ) → Contains (insert_ascending n xs) n
Contains-insert_new n [] = Contains-here [] n
Contains-insert_new n (x ∷ xs) = by (nat_lt n x) (n == x) refl (Contains-insert_new n xs)
  where
    by : (b e : Bool) → (n == x) ≡ e → Contains (insert_ascending n xs) n → Contains (if b then n ∷ x ∷ xs else (if e then x ∷ xs else x ∷ insert_ascending n xs)) n
    by true e q h = Contains-here (x ∷ xs) n
    by false true q h = let same : n ≡ x = grind (arith, nat_tests) in subst (Contains (x ∷ xs)) (sym same) (Contains-here xs x)
    by false false q h = Contains-later (insert_ascending n xs) x n h

Contains-insert_old : (n : ℕ) (xs : List ℕ) (m : ℕ) → Contains xs m → Contains (insert_ascending n xs) m
Contains-insert_old n [] m h = absurd (Contains-none m h)
Contains-insert_old n (x ∷ xs) m h = by (nat_lt n x) (n == x) (Contains-insert_old n xs m)
  where
    by : (b e : Bool) → (Contains xs m → Contains (insert_ascending n xs) m) → Contains (if b then n ∷ x ∷ xs else (if e then x ∷ xs else x ∷ insert_ascending n xs)) m
    by true e k = Contains-later (x ∷ xs) n m h
    by false true k = h
    by false false k = elim (Contains-cons_cases xs x m h) [ inl a ↦ subst (Contains (x ∷ insert_ascending n xs)) a (Contains-here (insert_ascending n xs) x) | inr a ↦ Contains-later (insert_ascending n xs) x m (k a) ]

Contains-insert_cases : (n : ℕ) (xs : List ℕ) (m : ℕ) → Contains (insert_ascending n xs) m → (n ≡ m) ⊎ Contains xs m
Contains-insert_cases n [] m h = Contains-cons_cases [] n m h
Contains-insert_cases n (x ∷ xs) m given = by (nat_lt n x) (n == x) (Contains-insert_cases n xs m) given
  where
    by : (b e : Bool) → (Contains (insert_ascending n xs) m → (n ≡ m) ⊎ Contains xs m) → Contains (if b then n ∷ x ∷ xs else (if e then x ∷ xs else x ∷ insert_ascending n xs)) m → (n ≡ m) ⊎ Contains (x ∷ xs) m
    by true e k h = Contains-cons_cases (x ∷ xs) n m h
    by false true k h = inr h
    by false false k h = elim (Contains-cons_cases (insert_ascending n xs) x m h) [ inl a ↦ inr (subst (Contains (x ∷ xs)) a (Contains-here xs x)) | inr a ↦ elim (k a) [ inl b ↦ inl b | inr b ↦ inr (Contains-later xs x m b) ] ]

push-not_empty : {X : Type 0} (xs : List X) (x : X) → xs ++ x ∷ [] ≡ [] → ⊥
push-not_empty [] x e = cc
push-not_empty (y ∷ ys) x e = cc

-- the test of a terminal at a position
abbrev test_at : (position terminal : ℕ) → Test
test_at position terminal = record { position = position; terminal = terminal }

-- the invariant of the pass, test by test
record IsNoted (tests : List Test) (f : Furthest) : Type 0 where
  is : IsFurthest tests f.far f.expected
  rises : RisesFrom 0 f.expected

-- one more test: below the furthest failure so far, above it or at it
module _ (tests : List Test) (f : Furthest) (t : Test) (kept : IsNoted tests f) where
  all_within : (far : ℕ) → f.far ≤ far → t.position ≤ far → All (λ (s : Test). s.position ≤ far) (tests ++ t ∷ [])
  all_within far h k = All-push (λ (s : Test). s.position ≤ far) tests t (λ i d lt. le_trans (kept.is.greatest i d lt) h) k

  IsNoted-below : t.position < f.far → IsNoted (tests ++ t ∷ []) f
  IsNoted-below h = record {
    is = record {
      greatest = all_within f.far (le_refl f.far) (le_of_lt h);
      exactly = λ n. (λ c. Contains-append_left tests (t ∷ []) (test_at f.far n) ((kept.is.exactly n).0 c), λ c. elim (Contains-push_cases tests t (test_at f.far n) c) [ inl a ↦ (kept.is.exactly n).1 a | inr a ↦ absurd (let same : t.position ≡ f.far = ap (λ (s : Test). s.position) a in omega arith) ]);
      ascending = kept.is.ascending;
      reached = λ some. kept.is.reached (λ none. let zero_far : f.far ≡ 0 = kept.is.none none in absurd (omega arith));
      none = λ e. absurd (push-not_empty tests t e);
    };
    rises = kept.rises;
  }

  IsNoted-above : f.far < t.position → IsNoted (tests ++ t ∷ []) (record { far = t.position; expected = t.terminal ∷ [] })
  IsNoted-above h = record {
    is = record {
      greatest = all_within t.position (le_of_lt h) (le_refl t.position);
      exactly = λ n. (λ c. elim (Contains-cons_cases [] t.terminal n c) [ inl a ↦ subst (λ k. Contains (tests ++ t ∷ []) (test_at t.position k)) a (Contains-push tests t) | inr a ↦ absurd (Contains-none n a) ], λ c. elim (Contains-push_cases tests t (test_at t.position n) c) [ inl a ↦ absurd (let within : t.position ≤ f.far = All-contains (λ (s : Test). s.position ≤ f.far) tests (test_at t.position n) kept.is.greatest a in omega arith) | inr a ↦ subst (Contains (t.terminal ∷ [])) (ap (λ (s : Test). s.terminal) a) (Contains-here [] t.terminal) ]);
      ascending = RisesFrom-to_increasing 0 (t.terminal ∷ []) (omega arith, tt);
      reached = λ some e. cc;
      none = λ e. absurd (push-not_empty tests t e);
    };
    rises = (omega arith, tt);
  }

  IsNoted-at : t.position ≡ f.far → IsNoted (tests ++ t ∷ []) (record { far = f.far; expected = insert_ascending t.terminal f.expected })
  IsNoted-at h = record {
    is = record {
      greatest = all_within f.far (le_refl f.far) (omega arith);
      exactly = λ n. (λ c. elim (Contains-insert_cases t.terminal f.expected n c) [ inl a ↦ subst (Contains (tests ++ t ∷ [])) (same n a) (Contains-push tests t) | inr a ↦ Contains-append_left tests (t ∷ []) (test_at f.far n) ((kept.is.exactly n).0 a) ], λ c. elim (Contains-push_cases tests t (test_at f.far n) c) [ inl a ↦ Contains-insert_old t.terminal f.expected n ((kept.is.exactly n).1 a) | inr a ↦ subst (Contains (insert_ascending t.terminal f.expected)) (ap (λ (s : Test). s.terminal) a) (Contains-insert_new t.terminal f.expected) ]);
      ascending = RisesFrom-to_increasing 0 (insert_ascending t.terminal f.expected) inserted;
      reached = λ some e. Contains-none t.terminal (subst (λ l. Contains l t.terminal) e (Contains-insert_new t.terminal f.expected));
      none = λ e. absurd (push-not_empty tests t e);
    };
    rises = inserted;
  }
    where
      inserted : RisesFrom 0 (insert_ascending t.terminal f.expected)
      inserted = RisesFrom-insert t.terminal 0 f.expected (omega arith) kept.rises

      same : (n : ℕ) → t.terminal ≡ n → t ≡ test_at f.far n
      same n a = λ i. test_at (h i) (a i)

  IsNoted-push : IsNoted (tests ++ t ∷ []) (note_test f t)
  IsNoted-push = by (nat_lt t.position f.far) (nat_lt f.far t.position) refl refl
    where
      by : (b e : Bool) → nat_lt t.position f.far ≡ b → nat_lt f.far t.position ≡ e → IsNoted (tests ++ t ∷ []) (if b then f else (if e then record { far = t.position; expected = t.terminal ∷ [] } else record { far = f.far; expected = insert_ascending t.terminal f.expected }))
      by true e p q = IsNoted-below (grind (arith, nat_tests))
      by false true p q = IsNoted-above (grind (arith, nat_tests))
      by false false p q = IsNoted-at (grind (arith, nat_tests))

IsNoted-fold : (before tests : List Test) (f : Furthest) → IsNoted before f → IsNoted (before ++ tests) (fold note_test f tests)
IsNoted-fold before [] f kept = rw append-nil kept
IsNoted-fold before (t ∷ tests) f kept =
    rw append_assoc at (IsNoted-fold (before ++ t ∷ []) tests (note_test f t) (IsNoted-push before f t kept))

-- one pass over the failed tests computes their furthest failure
pub furthest_of-is : (tests : List Test) → IsFurthest tests (furthest_of tests).far (furthest_of tests).expected
furthest_of-is tests = (IsNoted-fold [] tests nothing_failed nothing).is
  where
    nothing : IsNoted [] nothing_failed
    nothing = record {
      is = record {
        greatest = λ k d h. absurd (omega arith);
        exactly = λ n. (λ c. absurd (Contains-none n c), λ c. absurd (Contains-none (test_at 0 n) c));
        ascending = λ k h. absurd (omega arith);
        reached = λ some. absurd (some refl);
        none = λ e. refl;
      };
      rises = tt;
    }
