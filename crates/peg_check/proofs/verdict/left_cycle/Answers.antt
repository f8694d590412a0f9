use Rattle.std.proofs.Common.{◌≡◌, ℕ, ◌<◌, true, List, length, get_or, ap, ◌∙◌, sym, subst, arith}
use Rattle.std.proofs.lemmas.List.{get_or_default}
use Rattle.peg_core.specs.CoreForm.{Empty}
use Rattle.peg_core.specs.CoreOutcomes.{IsCoreWellFormedIn}
use Rattle.peg_check.specs.Cans.{nothing_known}
use Rattle.peg_core.specs.Layout.{bodies_of}
use Rattle.peg_check.specs.Dependencies.{DepFits, dep_at}
use Rattle.peg_check.specs.Marks.{is_marked, IsSettledIn, AreSettled}
use Rattle.peg_check.specs.declared.dependency.Dependency.{Dependency}
use Rattle.peg_check.specs.declared.dependency.Dependency.TheVariants as dep
use Rattle.peg_check.proofs.DepLemmas.{HasDeps-fits, well_formed-settled}
use Rattle.peg_check.proofs.verdict.left_cycle.Goals as goal
use Rattle.peg_check.proofs.verdict.left_cycle.Goals.{In_ok-well_formedness}

pub well_formed_marks-requires-clause-few : goal.well_formed_marks-requires-clause-few
well_formed_marks-requires-clause-few c = omega (arith, ap length c.deref.ensures.value, c.in_ok-well_formedness.ensures.few)

-- the dependencies are among the forms
fit : (c : In_ok-well_formedness) (l : List Dependency) → l ≡ c.in_ok-well_formedness.well_formedness.items → (dependent : ℕ) (d : Dependency) → dependent < length l
    → DepFits (length l) (get_or l dependent d)
fit c l is dependent d within =
    let core = c.args.core.now in
    let counted : length l ≡ length core.forms = ap length is ∙ c.in_ok-well_formedness.ensures.count in
    let inside : dependent < length core.forms = omega arith in
    let checked_deps = HasDeps-fits core dependent (dep_at c.in_ok-well_formedness.well_formedness.items dependent) inside (c.in_ok-well_formedness.ensures.checked_deps dependent inside) in
    subst (λ n. DepFits n (get_or l dependent d)) (sym counted)
    (subst (DepFits (length core.forms)) (ap (λ (k : List Dependency). dep_at k dependent) (sym is) ∙ get_or_default l dependent (dep.Constant nothing_known) d within) checked_deps)

pub well_formed_marks-requires-clause-fit : goal.well_formed_marks-requires-clause-fit
well_formed_marks-requires-clause-fit c = fit (goal.at.well_formed_marks-requires-clause-fit c).In_ok-well_formedness c.deref.result.now c.deref.ensures.value

pub least_cycle-requires-clause-fit : goal.least_cycle-requires-clause-fit
least_cycle-requires-clause-fit c = fit (goal.at.least_cycle-requires-clause-fit c).In_ok-well_formedness c.deref-in-Some-3.result.now c.deref-in-Some-3.ensures.value

pub first_unmarked-requires : goal.first_unmarked-requires
first_unmarked-requires c =
    omega (arith, ap length c.deref-2.ensures.value, c.in_ok-marks.ensures.count, ap length c.deref.ensures.value, c.in_ok-well_formedness.ensures.few)

pub returns-in-None : goal.returns-in-None
returns-in-None c =
    let core = c.args.core.now in
    let well_formedness = c.in_ok-well_formedness.well_formedness.items in
    let marks = c.in_ok-marks.marks.items in
    let settled : AreSettled well_formedness marks = subst (λ (l : List Dependency). AreSettled l marks) c.deref.ensures.value c.in_ok-marks.ensures in
    λ k d within.
    let inside : k < length c.deref-2.result.now = omega (arith, ap length c.deref-2.ensures.value, settled.count, c.in_ok-well_formedness.ensures.count) in
    let marked = subst (λ m. is_marked m k ≡ true) c.deref-2.ensures.value (c.in-None.ensures k inside) in
    let rounds = subst (λ n. IsSettledIn well_formedness n k) c.in_ok-well_formedness.ensures.count (settled.rounds k marked) in
    subst (λ f. IsCoreWellFormedIn (bodies_of core) (length core.forms) f) (get_or_default core.forms k Empty d within)
    (well_formed-settled core well_formedness c.in_ok-well_formedness.ensures.checked_deps c.requires.loops (length core.forms) k within rounds)
