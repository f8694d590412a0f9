-- Iteration on finitely many questions. If a round finds nothing new, no later round does, so as many rounds as there
-- are questions are enough.
use Rattle.std.proofs.Common.{◌≡◌, ℕ, zero, suc, ◌+◌, ◌-◌, ◌<◌, ◌≤◌, ◌⊎◌, inl, inr, List, [], ◌∷◌, length, All}
use Rattle.std.proofs.Common.{Contains, Option, None, Some, refl, sym, ap, ◌∙◌, zero-add, suc-add, arith}
use Rattle.std.proofs.lemmas.List.Elements.{All-nil, All-cons, All-contains}
use Rattle.peg_semantics.proofs.RecordLemmas.{Extends}

-- the number of answers to one question, and to several
abbrev one : {A : Type 0} → Option A → ℕ
one None = 0
one (Some x) = 1

abbrev count : {S A : Type 0} → (S → Option A) → List S → ℕ
count found [] = 0
count found (s ∷ ss) = one (found s) + count found ss

one-most : {A : Type 0} (a : Option A) → one a ≤ 1
one-most None = omega arith
one-most (Some x) = omega arith

count-most : {S A : Type 0} (found : S → Option A) (asked : List S) → count found asked ≤ length asked
count-most found [] = omega arith
count-most found (s ∷ ss) = omega (arith, one-most (found s), count-most found ss)

same_or_new : {A : Type 0} (a b : Option A) → Extends a b → (a ≡ b) ⊎ (one a < one b)
same_or_new None None more = inl refl
same_or_new None (Some y) more = inr (omega arith)
same_or_new (Some x) b more = inl (sym (more x refl))

-- two rounds give the same answers to all questions
abbrev Agree : {S A : Type 0} → (first second : S → Option A) → List S → Type 0
Agree first second asked = All (λ s. first s ≡ second s) asked

-- a round that has all answers of another has the same answers or more of them
same_or_more : {S A : Type 0} (first second : S → Option A) → ((s : S) → Extends (first s) (second s))
    → (asked : List S)
    → (Agree first second asked × (count first asked ≡ count second asked)) ⊎ (count first asked < count second asked)
same_or_more first second more [] = inl (All-nil (λ s. first s ≡ second s), refl)
same_or_more {S} first second more (s ∷ ss) =
    by (same_or_new (first s) (second s) (more s)) (same_or_more first second more ss)
  where
    by : (first s ≡ second s) ⊎ (one (first s) < one (second s))
        → (Agree first second ss × (count first ss ≡ count second ss)) ⊎ (count first ss < count second ss)
        → (Agree first second (s ∷ ss) × (count first (s ∷ ss) ≡ count second (s ∷ ss)))
        ⊎ (count first (s ∷ ss) < count second (s ∷ ss))
    by (inl same) (inl rest) =
        let here : one (first s) ≡ one (second s) = ap one same in
        inl (All-cons (λ s. first s ≡ second s) s ss same rest.0, omega (arith, here, rest.1))
    by (inl same) (inr rest) =
        let here : one (first s) ≡ one (second s) = ap one same in inr (omega (arith, here, rest))
    by (inr new) (inl rest) = inr (omega (arith, new, rest.1))
    by (inr new) (inr rest) = inr (omega (arith, new, rest))

module _ {S A : Type 0} (found : ℕ → S → Option A) (more : (n : ℕ) (s : S) → Extends (found n s) (found (suc n) s))
    (asked : List S)
    (on : (n : ℕ) → Agree (found n) (found (suc n)) asked → Agree (found (suc n)) (found (suc (suc n))) asked) where
  -- answers are kept in later rounds
  found_later : (later n : ℕ) (s : S) → Extends (found n s) (found (later + n) s)
  found_later zero n s x is = rw zero-add is
  found_later (suc later) n s x is = rw suc-add (more (later + n) s x (found_later later n s x is))

  -- a round after which the next one finds nothing new
  abbrev Stable : ℕ → Type 0
  Stable n = Agree (found n) (found (suc n)) asked

  stable_later : (later n : ℕ) → Stable n → Stable (later + n)
  stable_later zero n stable = rw zero-add stable
  stable_later (suc later) n stable = rw suc-add (on (later + n) (stable_later later n stable))

  same_later : (later n : ℕ) → Stable n → (s : S) → Contains asked s → found n s ≡ found (later + n) s
  same_later zero n stable s there = rw zero-add refl
  same_later (suc later) n stable s there =
      rw suc-add
      (same_later later n stable s there
      ∙ All-contains (λ s. found (later + n) s ≡ found (suc (later + n)) s) asked s (stable_later later n stable) there)

  -- either an earlier round found nothing new, or each round found something
  stable_or_many : (n : ℕ) → ((k : ℕ) × (k < n) × Stable k) ⊎ (n ≤ count (found n) asked)
  stable_or_many zero = inr (omega arith)
  stable_or_many (suc n) = by (stable_or_many n) (same_or_more (found n) (found (suc n)) (more n) asked)
    where
      by : ((k : ℕ) × (k < n) × Stable k) ⊎ (n ≤ count (found n) asked)
          → (Stable n × (count (found n) asked ≡ count (found (suc n)) asked))
          ⊎ (count (found n) asked < count (found (suc n)) asked)
          → ((k : ℕ) × (k < suc n) × Stable k) ⊎ (suc n ≤ count (found (suc n)) asked)
      by (inl before) now = inl (before.0, omega (arith, before.1), before.2)
      by (inr many) (inl same) = inl (n, omega arith, same.0)
      by (inr many) (inr new) = inr (omega (arith, many, new))

  -- every answer is found in as many rounds as there are questions
  pub found_soon : (n m : ℕ) (s : S) (x : A) → length asked ≤ m → Contains asked s → found n s ≡ Some x
      → found m s ≡ Some x
  found_soon n m s x enough there is = by (stable_or_many (suc (length asked)))
    where
      at : (k : ℕ) → k ≤ m → Stable k → found m s ≡ Some x
      at k below stable =
          let late : found (k + n) s ≡ Some x = found_later k n s x is in
          let swap : k + n ≡ n + k = omega arith in
          let here : found k s ≡ Some x =
          same_later n k stable s there ∙ sym (ap (λ i. found i s) swap) ∙ late in
          let gap : (m - k) + k ≡ m = omega (arith, below) in
          sym (ap (λ i. found i s) gap) ∙ found_later (m - k) k s x here

      by : ((k : ℕ) × (k < suc (length asked)) × Stable k)
          ⊎ (suc (length asked) ≤ count (found (suc (length asked))) asked)
          → found m s ≡ Some x
      by (inl stable) = at stable.0 (omega (arith, stable.1, enough)) stable.2
      by (inr many) = absurd (omega (arith, many, count-most (found (suc (length asked))) asked))
