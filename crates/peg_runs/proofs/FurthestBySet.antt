-- The furthest failure depends only on the set of failed tests, not on their order or number.
use Rattle.std.proofs.Common.{◌≡◌, ◌↔◌, ℕ, zero, suc, ◌<◌, ◌≤◌, List, [], ◌∷◌, Contains, length, get_or, refl, subst}
use Rattle.std.proofs.Common.{arith}
use Rattle.peg_semantics.specs.Furthest.{IsFurthest}
use Rattle.peg_semantics.specs.Record.{Test}
use Rattle.peg_runs.proofs.NotedLemmas.{not_in_none}

-- a list without elements is empty
empty_list : (tests : List Test) → ((test : Test) → Contains tests test → ⊥) → tests ≡ []
empty_list [] none = refl
empty_list (test ∷ tests) none = let some : 0 < length (test ∷ tests) = omega arith in absurd (none test (0, some, refl))

-- within a list the default is not read
nearest : (tests : List Test) (k : ℕ) (one other : Test) → k < length tests → get_or tests k one ≡ get_or tests k other
nearest [] k one other within = absurd (omega arith)
nearest (test ∷ tests) zero one other within = refl
nearest (test ∷ tests) (suc k) one other within =
    let less : k < length tests = omega arith in nearest tests k one other less

-- lists with the same set of tests have the same furthest failure
pub same_furthest : (tests others : List Test) (far : ℕ) (expected : List ℕ)
    → ((test : Test) → (Contains tests test ↔ Contains others test)) → IsFurthest tests far expected
    → IsFurthest others far expected
same_furthest tests others far expected same is = record {
  greatest = λ k d within.
      let there = (same (get_or others k d)).1 (k, within, nearest others k (get_or others k d) d within) in
      subst (λ (test : Test). test.position ≤ far) there.2 (is.greatest there.0 (get_or others k d) there.1);
  exactly = λ terminal. (
    (λ has. (same (record { position = far; terminal = terminal })).0 ((is.exactly terminal).0 has)),
    (λ has. (is.exactly terminal).1 ((same (record { position = far; terminal = terminal })).1 has)),
  );
  ascending = is.ascending;
  reached = λ some none. is.reached
      (λ empty. some (empty_list others (λ test has.
      not_in_none test (subst (λ (l : List Test). Contains l test) empty ((same test).1 has))))) none;
  none = λ empty. is.none (empty_list tests (λ test has.
      not_in_none test (subst (λ (l : List Test). Contains l test) empty ((same test).0 has))));
}
