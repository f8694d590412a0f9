use Rattle.std.proofs.Common.{◌≡◌, ◌<◌, inl, inr, false, Some, sym, ◌∙◌, subst, arith}
use Rattle.peg_check.specs.Dependencies.{DepFits, dep_at}
use Rattle.peg_check.specs.Marks.{is_marked}
use Rattle.peg_check.proofs.DepLemmas.{AsksForPart, HasDeps-fits, HasDeps-part, HasDeps-rule}
use Rattle.peg_check.proofs.cycles.left_call.Goals as goal
use Rattle.peg_check.proofs.cycles.left_call.Goals.{In-Some-first_unmarked_dep}

pub returns-in-Some-clause-left : goal.returns-in-Some-clause-left
returns-in-Some-clause-left c =
    let core = c.args.core.now in
    let number = c.parts.number in
    let l = dep_at c.args.well_formedness.now number in
    let left = c.requires.settled.left number (omega (arith, c.parts.invariant.within, c.requires.count)) c.parts.invariant.left in
    let part = HasDeps-rule core number l c.in-Some.rule left.0 c.in-Some.ensures.used (c.requires.checked_deps number c.parts.invariant.within) left.1.0 in
    λ body there. let both : Some left.0 ≡ Some body = sym part ∙ there in let same : left.0 ≡ body = cc in subst (λ b. is_marked c.args.marks.now b ≡ false) same left.1.1

pub first_unmarked_dep-requires : goal.first_unmarked_dep-requires
first_unmarked_dep-requires c =
    let core = c.args.core.now in
    let number = c.parts.number in
    let l = dep_at c.args.well_formedness.now number in
    subst (λ n. DepFits n l) (sym (c.requires.settled.count ∙ c.requires.count))
    (HasDeps-fits core number l c.parts.invariant.within (c.requires.checked_deps number c.parts.invariant.within))

-- the dependency is a part, since the form isn't a call of a rule
checked_deps-part : (c : In-Some-first_unmarked_dep) → AsksForPart c.args.core.now c.parts.number c.in-Some-first_unmarked_dep.part
checked_deps-part c =
    let core = c.args.core.now in
    let number = c.parts.number in
    let part = c.in-Some-first_unmarked_dep.part in
    let checked_deps = HasDeps-part core number (dep_at c.args.well_formedness.now number) part (c.requires.checked_deps number c.parts.invariant.within) c.in-Some-first_unmarked_dep.ensures.0 in
    elim checked_deps [ inl body ↦ absurd (c.in_default.ensures.used body.0 body.1) | inr before ↦ before ]

pub parts-smaller : goal.parts-smaller
parts-smaller c = (checked_deps-part c).0

pub parts-preserved : goal.parts-preserved
parts-preserved c =
    let before = checked_deps-part c in
    let less : c.in-Some-first_unmarked_dep.part < c.parts.number = before.0 in
    record {
      within = omega (arith, c.parts.invariant.within);
      left = c.in-Some-first_unmarked_dep.ensures.1;
      meets = λ rule h. c.parts.invariant.meets rule (before.1 rule h);
    }
