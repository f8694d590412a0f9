-- Adding the rules of one set to another one, in ascending order.
use Rattle.std.proofs.Common.{◌≡◌, ◌≢◌, ℕ, ◌+◌, ◌<◌, ◌≤◌, ◌==◌, Bool, true, false, ◌||◌, inl, inr, refl, sym, ap, ◌∙◌, arith}
use Rattle.std.proofs.lemmas.Bool.{cases_lt, eq-eqb, ne_eqb}

-- The rules before this one that are in the set were added to those before.
pub record AreAdded (rule : ℕ) (set before now : ℕ → Bool) : Type 0 where
  pub added : (n : ℕ) → n < rule → now n ≡ (set n || before n)
  pub others : (n : ℕ) → rule ≤ n → now n ≡ before n

-- no rule yet
pub none-added : (set before : ℕ → Bool) → AreAdded 0 set before before
none-added set before = record { added = λ n less. absurd (omega (arith, less)); others = λ n past. refl }

module _ (rule : ℕ) (set before now : ℕ → Bool) (are : AreAdded rule set before now) where
  -- the rule is in the set, and is added
  pub one-added : (new : ℕ → Bool) → set rule ≡ true → ((n : ℕ) → new n ≡ ((n == rule) || now n))
      → AreAdded (rule + 1) set before new
  one-added new is inserted = record {
    added = λ n less. elim (cases_lt n rule) [
      | inl earlier ↦ unchanged n (λ same. omega (arith, same, earlier)) ∙ are.added n earlier
      | inr past ↦
          let here : n ≡ rule = omega (arith, past, less) in
          inserted n
          ∙ ap (λ b. b || now n) (eq-eqb n rule here)
          ∙ sym (ap (λ b. b || before n) (ap set here ∙ is))
    ];
    others = λ n past. unchanged n (λ same. omega (arith, same, past)) ∙ are.others n (omega (arith, past));
  }
    where
      unchanged : (n : ℕ) → n ≢ rule → new n ≡ now n
      unchanged n differs = inserted n ∙ ap (λ b. b || now n) (ne_eqb n rule differs)

  -- the rule isn't in the set
  pub none-more : set rule ≡ false → AreAdded (rule + 1) set before now
  none-more is = record {
    added = λ n less. elim (cases_lt n rule) [
      | inl earlier ↦ are.added n earlier
      | inr past ↦
          let here : n ≡ rule = omega (arith, past, less) in
          are.others n past ∙ sym (ap (λ b. b || before n) (ap set here ∙ is))
    ];
    others = λ n past. are.others n (omega (arith, past));
  }
