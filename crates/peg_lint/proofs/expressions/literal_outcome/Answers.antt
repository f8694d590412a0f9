use Rattle.std.proofs.Common.{◌≡◌, ℕ, List, [], ◌∷◌, length, true, false, ◌==◌, sym, ◌∙◌, subst, refl, arith}
use Rattle.std.proofs.lemmas.Bool.{eqb-true, eq-eqb}
use Rattle.peg_bytes.specs.Extent.{Extent}
use Rattle.peg_semantics.specs.AbstractOutcomes.{Can, always_empty, consumes_or_fails}
use Rattle.peg_semantics.specs.Form.{Literal}
use Rattle.peg_semantics.specs.RuleOutcomes.{IsAbstractOutcome}
use Rattle.peg_semantics.specs.Rules.{Rule}
use Rattle.peg_lint.proofs.OutcomeLemmas.{of-Literal, of-Literal-empty}
use Rattle.peg_lint.proofs.expressions.literal_outcome.Goals as goal

without_bytes : (rules : List Rule) (span : Extent) (bytes : List ℕ) → (length bytes == 0) ≡ true
    → IsAbstractOutcome rules (Literal bytes span) always_empty
without_bytes rules span [] empty = of-Literal-empty rules span
without_bytes rules span (b ∷ bs) empty = absurd (omega (arith, eqb-true (length (b ∷ bs)) 0 empty))

with_bytes : (rules : List Rule) (span : Extent) (bytes : List ℕ) → (length bytes == 0) ≡ false
    → IsAbstractOutcome rules (Literal bytes span) consumes_or_fails
with_bytes rules span [] empty =
    let bad : true ≡ false = sym (eq-eqb (length {A = ℕ} []) 0 refl) ∙ empty in absurd cc
with_bytes rules span (b ∷ bs) empty = of-Literal rules span b bs

pub returns-then-is_empty : goal.returns-then-is_empty
returns-then-is_empty c = λ rules span.
    subst (λ (can : Can). IsAbstractOutcome rules (Literal c.args.bytes.now span) can) (sym c.empty.ensures)
    (without_bytes rules span c.args.bytes.now (sym c.is_empty.ensures ∙ c.if-is_empty.true))

pub returns-else-is_empty : goal.returns-else-is_empty
returns-else-is_empty c = λ rules span.
    subst (λ (can : Can). IsAbstractOutcome rules (Literal c.args.bytes.now span) can) (sym c.some_bytes.ensures)
    (with_bytes rules span c.args.bytes.now (sym c.is_empty.ensures ∙ c.if-is_empty.false))
