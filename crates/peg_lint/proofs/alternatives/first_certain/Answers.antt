use Rattle.std.proofs.Common.{◌≡◌, ◌+◌, ◌<◌, inl, inr, ℕ, zero, suc, List, [], ◌∷◌, length, map, get_or, false, refl, ap, ◌∙◌, arith}
use Rattle.std.proofs.lemmas.Bool.{cases_lt}
use Rattle.std.proofs.lemmas.List.{length-map}
use Rattle.peg_check.specs.Cans.{can_of}
use Rattle.peg_check.specs.declared.can.Can as code
use Rattle.peg_semantics.specs.AbstractOutcomes.{Can}
use Rattle.peg_lint.specs.Linting.{can_at}
use Rattle.peg_lint.proofs.alternatives.first_certain.Goals as goal

-- the outcomes at an index are those of the code
at-map : (cans : List code.Can) (i : ℕ) (d : code.Can) → i < length cans
    → (can_at (map can_of cans) i).fails ≡ (get_or cans i d).fails
at-map [] i d within = absurd (omega (arith, within))
at-map (c ∷ cs) zero d within = refl
at-map (c ∷ cs) (suc i) d within = at-map cs i d (omega (arith, within))

at-next : (x : Can) (cans : List code.Can) (i : ℕ) (d : code.Can) → i < length cans
    → (can_at (x ∷ map can_of cans) (i + 1)).fails ≡ (get_or cans i d).fails
at-next x cans i d within =
    let next : i + 1 ≡ suc i = omega arith in
    ap (λ n. (can_at (x ∷ map can_of cans) n).fails) next ∙ at-map cans i d within

none : code.Can
none = record { nothing = false; something = false; fails = false }

pub returns-then-not-cans-index-clause-some : goal.returns-then-not-cans-index-clause-some
unfolding none
returns-then-not-cans-index-clause-some c =
    let cans = c.args.cans.now in
    let i = c.alternatives.index in
    let within : i < length cans = omega (arith, c.alternatives-test.true) in
    record {
      within = omega (arith, within, length-map cans can_of);
      certain = at-next (can_of c.args.can) cans i none within ∙ c.if-not-cans-index.true;
      before = c.alternatives.invariant;
    }

pub alternatives-preserved : goal.alternatives-preserved
unfolding none
alternatives-preserved c = λ k less.
    let cans = c.args.cans.now in
    let i = c.alternatives.index in
    let within : i < length cans = omega (arith, c.alternatives-test.true) in
    elim (cases_lt k (i + 1)) [
      | inl before ↦ c.alternatives.invariant k before
      | inr after ↦
          let same : k ≡ i + 1 = omega (arith, less, after) in
          ap (λ n. (can_at (can_of c.args.can ∷ map can_of cans) n).fails) same
          ∙ (at-next (can_of c.args.can) cans i none within ∙ c.if-not-cans-index.false)
    ]
