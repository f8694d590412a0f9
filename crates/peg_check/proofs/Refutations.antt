-- Core forms with an empty loop or a left cycle aren't all well-formed.
use Rattle.std.proofs.Common.{◌≡◌, ℕ, ◌<◌, ◌≤◌, ◌⊎◌, inl, inr, List, [], ◌∷◌, Option, None, Some, length, slice_get, option_map, refl, sym, ap, ◌∙◌, subst, arith}
use Rattle.std.proofs.lemmas.Bool.{cases_lt}
use Rattle.std.proofs.lemmas.List.{get_or_past}
use Rattle.std.proofs.lemmas.Option.{slice_get-map}
use Rattle.peg_core.specs.CoreForm.{Empty}
use Rattle.peg_core.specs.CoreLoops.{CoreCanCallFirst, CoreLeftCalls, IsCoreLeftCycle}
use Rattle.peg_core.specs.CoreOutcomes.{BodyIs, IsCoreWellFormedIn, IsCoreWellFormed}
use Rattle.peg_core.specs.Layout.{bodies_of, Desugared, form_at}
use Rattle.peg_core.proofs.CoreRefutations.{star-refuted, some-turn, no-cycle}
use Rattle.peg_check.specs.EmptyLoops.{IsLoopAt}
use Rattle.peg_check.specs.Verdicts.{AreWellFormed}

-- ---- empty loops

pub loop-refuted : (core : Desugared) (number : ℕ) → number < length core.forms → IsLoopAt core number
    → AreWellFormed core → ⊥
loop-refuted core number within loops all =
    star-refuted (bodies_of core) loops.0 loops.1 loops.3
    (subst (IsCoreWellFormed (bodies_of core)) loops.2 (all number Empty within))

-- ---- left cycles

-- a form that left-calls a rule is one of the forms
pub meets-within : (core : Desugared) (number rule : ℕ) → CoreCanCallFirst (bodies_of core) (form_at core.forms number) rule
    → number < length core.forms
meets-within core number rule meets = by (cases_lt number (length core.forms))
  where
    by : (number < length core.forms) ⊎ (length core.forms ≤ number) → number < length core.forms
    by (inl within) = within
    by (inr past) =
        absurd (subst (λ f. CoreCanCallFirst (bodies_of core) f rule) (get_or_past core.forms number Empty past) meets)

-- a body that left-calls a rule is well-formed, if all forms are
body-fine : (core : Desugared) (rule next : ℕ) → AreWellFormed core → CoreLeftCalls (bodies_of core) rule next
    → (n : ℕ) × BodyIs (IsCoreWellFormedIn (bodies_of core) n) (slice_get (bodies_of core) rule)
body-fine core rule next all meets = by (slice_get core.bodies rule) refl
  where
    as_form : (o : Option ℕ) → slice_get core.bodies rule ≡ o
        → slice_get (bodies_of core) rule ≡ option_map (form_at core.forms) o
    as_form o is = slice_get-map (form_at core.forms) core.bodies rule ∙ ap (option_map (form_at core.forms)) is

    by : (o : Option ℕ) → slice_get core.bodies rule ≡ o
        → (n : ℕ) × BodyIs (IsCoreWellFormedIn (bodies_of core) n) (slice_get (bodies_of core) rule)
    by None is = absurd (subst (BodyIs (λ body. CoreCanCallFirst (bodies_of core) body next)) (as_form None is) meets)
    by (Some body) is =
        let met : CoreCanCallFirst (bodies_of core) (form_at core.forms body) next = subst (BodyIs (λ form. CoreCanCallFirst (bodies_of core) form next)) (as_form (Some body) is) meets in
        let fine : IsCoreWellFormed (bodies_of core) (form_at core.forms body) = all body Empty (meets-within core body next met) in
        (fine.0, subst (BodyIs (IsCoreWellFormedIn (bodies_of core) fine.0)) (sym (as_form (Some body) is)) fine.1)

pub cycle-refuted : (core : Desugared) (path : List ℕ) → IsCoreLeftCycle (bodies_of core) path → AreWellFormed core → ⊥
cycle-refuted core [] cycle all = cycle
cycle-refuted core (rule ∷ more) cycle all =
    let met = some-turn (bodies_of core) rule more cycle in
    let fine = body-fine core rule met.0 all met.1 in
    no-cycle (bodies_of core) fine.0 fine.0 rule more (omega arith) fine.1 cycle
