use Rattle.std.proofs.Common.{◌≡◌, ℕ, ◌<◌, inl, inr, true, false, Option, None, MatchOption, Vec, Global, List, [], ◌∷◌, length, sym, ◌∙◌, subst, arith}
use Rattle.std.proofs.lemmas.Bool.{cases_eq}
use Rattle.std.proofs.lemmas.List.{get_or_default, length-map}
use Rattle.peg_core.specs.CoreLoops.{IsCoreLeftCycle}
use Rattle.peg_core.specs.Layout.{bodies_of, Desugared, form_at}
use Rattle.peg_check.specs.Distances.{AreOrdered}
use Rattle.peg_check.specs.LeastCycles.{IsLeastFrom}
use Rattle.peg_check.specs.Marks.{is_marked}
use Rattle.peg_check.proofs.LeastCycleLemmas.{called-on-cycle}
use Rattle.peg_check.proofs.PathLemmas.{cycle-bodies}
use Rattle.peg_check.proofs.least_cycle.least_cycle.Goals as goal
use Rattle.peg_check.proofs.least_cycle.least_cycle.Goals.{Joined-index, then-index+in_ok-path+in_default, else-index}

-- a rule on a left cycle is marked
marked : (c : Joined-index) (more : List ℕ) → IsCoreLeftCycle (bodies_of c.args.core.now) (c.loop-rule.rule ∷ more)
    → is_marked c.in_ok-called.called.items c.loop-rule.rule ≡ true
marked c more cycle =
    let ordered = subst (AreOrdered c.args.well_formedness.now) (sym c.deref.ensures.value) c.in_ok-labels.ensures.ordered in
    let on = called-on-cycle c.args.core.now c.args.well_formedness.now c.requires.checked_deps c.requires.count c.deref.result.now ordered c.loop-rule.rule more cycle in
    c.in_ok-called.ensures.called on.0 c.loop-rule.rule on.1 on.2 on.3 on.4 on.5

-- the search found none
at-none : (core : Desugared) (rule : ℕ) (o : Option (Vec ℕ Global)) → o ≡ None
    → MatchOption o ((more : List ℕ) → ¬ IsCoreLeftCycle (bodies_of core) (rule ∷ more)) (λ path. IsLeastFrom (bodies_of core) rule path.items)
    → (more : List ℕ) → ¬ IsCoreLeftCycle (bodies_of core) (rule ∷ more)
at-none core rule o is found =
    subst (λ (p : Option (Vec ℕ Global)). MatchOption p ((more : List ℕ) → ¬ IsCoreLeftCycle (bodies_of core) (rule ∷ more)) (λ path. IsLeastFrom (bodies_of core) rule path.items)) is found

-- so this rule is on none
none : (c : Joined-index) (more : List ℕ) → ¬ IsCoreLeftCycle (bodies_of c.args.core.now) (c.loop-rule.rule ∷ more)
none c more cycle = elim c.if-index.branch [
  | then-index+in_ok-path+in_default w ↦ absurd (at-none c.args.core.now c.loop-rule.rule w.in_ok-path.field-0 w.in_default.is w.in_ok-path.ensures more cycle)
  | else-index w ↦ (let e = marked c more cycle in
      let less : c.loop-rule.rule < length c.in_ok-called.called.items = omega (arith, c.loop-rule-test.true, c.rules-rule-end.ensures.count, c.in_ok-called.ensures.count) in
      let bad : false ≡ true = sym w.if-index.false ∙ (c.index.ensures ∙ (get_or_default c.in_ok-called.called.items c.loop-rule.rule c.index.result.now false less ∙ e)) in
      cc)
]

pub loop-rule-preserved : goal.loop-rule-preserved
loop-rule-preserved c = λ before more less cycle.
    elim (cases_eq before c.loop-rule.rule) [
      | inl same ↦ none c more (subst (λ r. IsCoreLeftCycle (bodies_of c.args.core.now) (r ∷ more)) same cycle)
      | inr differs ↦ c.loop-rule.invariant before more (omega (arith, less, differs)) cycle
    ]

pub returns : goal.returns
returns c = by
  where
    by : (path : List ℕ) → IsCoreLeftCycle (bodies_of c.args.core.now) path → ⊥
    by [] cycle = cycle
    by (rule ∷ more) cycle =
        let all = cycle-bodies (bodies_of c.args.core.now) (rule ∷ more) cycle in
        let less : rule < length (bodies_of c.args.core.now) = all 0 0 (omega arith) in
        c.loop-rule.invariant rule more (omega (arith, less, length-map c.args.core.now.bodies (form_at c.args.core.now.forms), c.loop-rule-test.false, c.rules-rule-end.ensures.count)) cycle
