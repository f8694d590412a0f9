-- Loops that append a changed rule for each rule of a grammar.
use Rattle.std.proofs.Common.{◌≡◌, ℕ, zero, suc, ◌+◌, ◌<◌, List, [], ◌∷◌, ◌++◌, length, map, take, slice_get, Some}
use Rattle.std.proofs.Common.{refl, sym, ap, ap₂, ◌∙◌, arith, append_assoc}
use Rattle.std.proofs.lemmas.List.{map-append}
use Rattle.peg_grammar.specs.Written.{rule_of, rules_of}
use Rattle.peg_grammar.specs.declared.expr.Definition.{Definition}
use Rattle.peg_semantics.specs.Rules.{Rule}

-- one more element is taken
taken : {X : Type 0} (xs : List X) (i : ℕ) → i < length xs
    → (x : X) × (slice_get xs i ≡ Some x) × (take (i + 1) xs ≡ take i xs ++ x ∷ [])
taken [] i within = absurd (omega (arith, within))
taken (x ∷ xs) zero within = (x, refl, refl)
taken (x ∷ xs) (suc i) within =
    let later = taken xs i (omega (arith, within)) in (
      later.0,
      later.1,
      ap (λ n. take n (x ∷ xs)) (let at : suc i + 1 ≡ suc (i + 1) = omega arith in at) ∙ ap (λ l. x ∷ l) later.2,
    )

module _ (change : Rule → Rule) where
  -- the definitions represent those at the start, and then the first rules changed
  abbrev pub AddsRules : (start now : List Definition) → List Rule → ℕ → Type 0
  AddsRules start now rules index = rules_of now ≡ rules_of start ++ map change (take index rules)

  pub AddsRules-more : (start now new : List Definition) (rules : List Rule) (index : ℕ) (d : Definition)
      → index < length rules → ((r : Rule) → slice_get rules index ≡ Some r → rule_of d ≡ change r)
      → new ≡ now ++ d ∷ [] → AddsRules start now rules index → AddsRules start new rules (index + 1)
  AddsRules-more start now new rules index d within is pushed so_far =
      let next = taken rules index within in
      ap rules_of pushed
      ∙ map-append rule_of now (d ∷ [])
      ∙ ap₂ (λ l r. l ++ r ∷ []) so_far (is next.0 next.1)
      ∙ append_assoc (rules_of start) (map change (take index rules)) (change next.0 ∷ [])
      ∙ ap (λ l. rules_of start ++ l)
      (sym (map-append change (take index rules) (next.0 ∷ [])) ∙ ap (map change) (sym next.2))
