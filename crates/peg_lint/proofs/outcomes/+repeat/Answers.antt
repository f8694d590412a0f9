use Rattle.std.proofs.Common.{◌≡◌, ◌≢◌, ℕ, zero, suc, ◌-◌, ap, ◌∙◌, refl, arith}
use Rattle.peg_semantics.specs.AbstractOutcomes.{Can, optional_outcome, repeat_outcome, seq_outcome}
use Rattle.peg_check.specs.Cans.{can_of}
use Rattle.peg_lint.proofs.outcomes.+repeat.Goals as goal

-- one repetition that is required, then the others
one_more : (part : Can) (min max : ℕ) → min ≢ 0 → max ≢ 0
    → seq_outcome part (repeat_outcome part (min - 1) (max - 1)) ≡ repeat_outcome part min max
one_more part zero max some all = absurd (some refl)
one_more part (suc min) zero some all = absurd (all refl)
one_more part (suc min) (suc max) some all =
    let less : suc min - 1 ≡ min = omega arith in
    let fewer : suc max - 1 ≡ max = omega arith in
    λ i. seq_outcome part (repeat_outcome part (less i) (fewer i))

pub returns : goal.returns
returns t c =
    c.then-2.ensures ∙ (ap (seq_outcome (can_of c.args.part)) c.repeat-2.ensures
    ∙ one_more (can_of c.args.part) c.args.min c.args.max (omega arith) (omega arith))

-- no repetition is required: an optional one, then the others
one_optional : (part : Can) (min max : ℕ) → min ≡ 0 → max ≢ 0
    → optional_outcome (seq_outcome part (repeat_outcome part 0 (max - 1))) ≡ repeat_outcome part min max
one_optional part (suc min) max none all = absurd (omega arith)
one_optional part zero zero none all = absurd (all refl)
one_optional part zero (suc max) none all =
    let fewer : suc max - 1 ≡ max = omega arith in
    ap (λ n. optional_outcome (seq_outcome part (repeat_outcome part 0 n))) fewer

pub returns-then-min-eq0 : goal.returns-then-min-eq0
returns-then-min-eq0 t c =
    c.optional.ensures ∙ (ap optional_outcome (c.then.ensures ∙ ap (seq_outcome (can_of c.args.part)) c.repeat.ensures)
    ∙ one_optional (can_of c.args.part) c.args.min c.args.max (omega arith) (omega arith))
