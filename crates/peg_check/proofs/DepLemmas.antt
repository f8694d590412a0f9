-- Consequences of dependencies. If all dependencies of the forms are settled, the forms are well-formed. A dependency
-- left-calls only rules that the form left-calls.
use Rattle.std.proofs.Common.{◌≡◌, ℕ, zero, suc, ◌<◌, ◌⊎◌, inl, inr, List, Some, length, slice_get, option_map, refl, sym, ap, ◌∙◌, subst, arith}
use Rattle.std.proofs.lemmas.Option.{slice_get-map}
use Rattle.peg_core.specs.CoreForm.{CoreForm, Rule, Seq, Choice, Star, Not}
use Rattle.peg_core.specs.CoreLoops.{CoreCanCallFirst}
use Rattle.peg_core.specs.CoreOutcomes.{CorePredicate, BodyIs, CoreWellFormedTable, IsCoreWellFormedIn}
use Rattle.peg_core.specs.Layout.{bodies_of, Desugared, form_at}
use Rattle.peg_check.specs.WellFormednessDeps.{HasDeps, deps_empty, deps_test, deps_body, deps_first, deps_both, deps_either, deps_star, deps_not, AreWellFormednessDeps}
use Rattle.peg_check.specs.Dependencies.{DependsOn, DepFits, dep_at}
use Rattle.peg_check.specs.EmptyLoops.{IsLoopAt}
use Rattle.peg_check.specs.Marks.{IsSettledIn}
use Rattle.peg_check.specs.declared.dependency.Dependency.{Dependency}

-- the body of a rule as a form
pub body-form : (core : Desugared) (rule body : ℕ) → slice_get core.bodies rule ≡ Some body
    → slice_get (bodies_of core) rule ≡ Some (form_at core.forms body)
body-form core rule body there =
    slice_get-map (form_at core.forms) core.bodies rule ∙ ap (option_map (form_at core.forms)) there

-- the dependencies are among the forms
pub HasDeps-fits : (core : Desugared) (number : ℕ) (l : Dependency) → number < length core.forms → HasDeps core number l
    → DepFits (length core.forms) l
HasDeps-fits core number _ within (deps_empty can is) = tt
HasDeps-fits core number _ within (deps_test can set terminal is) = tt
HasDeps-fits core number _ within (deps_body rule body is there below) = below
HasDeps-fits core number _ within (deps_first first rest is below never) = omega arith
HasDeps-fits core number _ within (deps_both first rest is below also gives) = (omega arith, omega arith)
HasDeps-fits core number _ within (deps_either first rest is below also) = (omega arith, omega arith)
HasDeps-fits core number _ within (deps_star part origin is below) = omega arith
HasDeps-fits core number _ within (deps_not part is below) = omega arith

module _ (core : Desugared) (number : ℕ) where
  -- a call of a rule depends on its body
  abbrev pub AsksForBody : ℕ → Type 0
  AsksForBody part = (rule : ℕ) × (form_at core.forms number ≡ Rule rule) × (slice_get core.bodies rule ≡ Some part)

  -- another form depends on smaller parts, and left-calls the rules that they left-call
  abbrev pub AsksForPart : ℕ → Type 0
  AsksForPart part =
      (part < number)
      × ((rule : ℕ) → CoreCanCallFirst (bodies_of core) (form_at core.forms part) rule → CoreCanCallFirst (bodies_of core) (form_at core.forms number) rule)

  part-from : (part named : ℕ) → part ≡ named → AsksForPart part → AsksForBody named ⊎ AsksForPart named
  part-from part named same h = inr (subst AsksForPart same h)

  meets : (form : CoreForm) → form_at core.forms number ≡ form → (rule : ℕ) → CoreCanCallFirst (bodies_of core) form rule
      → CoreCanCallFirst (bodies_of core) (form_at core.forms number) rule
  meets form is rule h = subst (λ f. CoreCanCallFirst (bodies_of core) f rule) (sym is) h

  pub HasDeps-part : (l : Dependency) (part : ℕ) → HasDeps core number l → DependsOn l part → AsksForBody part ⊎ AsksForPart part
  HasDeps-part _ part (deps_empty can is) goes = absurd goes
  HasDeps-part _ part (deps_test can set terminal is) goes = absurd goes
  HasDeps-part _ part (deps_body rule body is there below) goes = inl (subst AsksForBody goes (rule, is, there))
  HasDeps-part _ part (deps_first first rest is below never) goes =
      part-from first part goes (below, λ rule h. meets _ is rule (inl h))
  HasDeps-part _ part (deps_both first rest is below also gives) (inl goes) =
      part-from first part goes (below, λ rule h. meets _ is rule (inl h))
  HasDeps-part _ part (deps_both first rest is below also gives) (inr goes) =
      part-from rest part goes (also, λ rule h. meets _ is rule (inr (gives, h)))
  HasDeps-part _ part (deps_either first rest is below also) (inl goes) =
      part-from first part goes (below, λ rule h. meets _ is rule (inl h))
  HasDeps-part _ part (deps_either first rest is below also) (inr goes) =
      part-from rest part goes (also, λ rule h. meets _ is rule (inr h))
  HasDeps-part _ part (deps_star one origin is below) goes = part-from one part goes (below, λ rule h. meets _ is rule h)
  HasDeps-part _ part (deps_not one is below) goes = part-from one part goes (below, λ rule h. meets _ is rule h)

  -- a call of a rule depends on nothing else
  pub HasDeps-rule : (l : Dependency) (rule part : ℕ) → form_at core.forms number ≡ Rule rule → HasDeps core number l
      → DependsOn l part → slice_get core.bodies rule ≡ Some part
  HasDeps-rule _ rule part use_of (deps_empty can is) goes = absurd goes
  HasDeps-rule _ rule part use_of (deps_test can set terminal is) goes = absurd goes
  HasDeps-rule _ rule part use_of (deps_body other body is there below) goes =
      let both : Rule other ≡ Rule rule = sym is ∙ use_of in
      let same : other ≡ rule = cc in
      subst (λ r. slice_get core.bodies r ≡ Some part) same (subst (λ b. slice_get core.bodies other ≡ Some b) goes there)
  HasDeps-rule _ rule part use_of (deps_first first rest is below never) goes =
      let bad : Seq (form_at core.forms first) (form_at core.forms rest) ≡ Rule rule = sym is ∙ use_of in cc
  HasDeps-rule _ rule part use_of (deps_both first rest is below also gives) goes =
      let bad : Seq (form_at core.forms first) (form_at core.forms rest) ≡ Rule rule = sym is ∙ use_of in cc
  HasDeps-rule _ rule part use_of (deps_either first rest is below also) goes =
      let bad : Choice (form_at core.forms first) (form_at core.forms rest) ≡ Rule rule = sym is ∙ use_of in cc
  HasDeps-rule _ rule part use_of (deps_star one origin is below) goes =
      let bad : Star (form_at core.forms one) origin ≡ Rule rule = sym is ∙ use_of in cc
  HasDeps-rule _ rule part use_of (deps_not one is below) goes =
      let bad : Not (form_at core.forms one) ≡ Rule rule = sym is ∙ use_of in cc

-- ---- settled forms

module _ (core : Desugared) (well_formedness : List Dependency) (checked_deps : AreWellFormednessDeps core well_formedness)
    (none : (number : ℕ) → number < length core.forms → ¬ IsLoopAt core number) where
  -- the rules for well-formed expressions hold if they hold of all dependencies
  by-rules : (Is : CorePredicate) (number : ℕ) (l : Dependency) → number < length core.forms → HasDeps core number l
      → ((part : ℕ) → part < length core.forms → DependsOn l part → Is (form_at core.forms part))
      → CoreWellFormedTable (bodies_of core) Is (form_at core.forms number)
  by-rules Is number _ within (deps_empty can is) all =
      subst (CoreWellFormedTable (bodies_of core) Is) (sym is) tt
  by-rules Is number _ within (deps_test can set terminal is) all =
      subst (CoreWellFormedTable (bodies_of core) Is) (sym is) tt
  by-rules Is number _ within (deps_body rule body is there below) all =
      subst (CoreWellFormedTable (bodies_of core) Is) (sym is)
      (subst (BodyIs Is) (sym (body-form core rule body there)) (all body below refl))
  by-rules Is number _ within (deps_first first rest is below never) all =
      subst (CoreWellFormedTable (bodies_of core) Is) (sym is) (all first (omega arith) refl, λ gives. absurd (never gives))
  by-rules Is number _ within (deps_both first rest is below also gives) all =
      subst (CoreWellFormedTable (bodies_of core) Is) (sym is)
      (all first (omega arith) (inl refl), λ again. all rest (omega arith) (inr refl))
  by-rules Is number _ within (deps_either first rest is below also) all =
      subst (CoreWellFormedTable (bodies_of core) Is) (sym is)
      (all first (omega arith) (inl refl), all rest (omega arith) (inr refl))
  by-rules Is number _ within (deps_star part origin is below) all =
      subst (CoreWellFormedTable (bodies_of core) Is) (sym is)
      (all part (omega arith) refl, λ gives. none number within (form_at core.forms part, origin, is, gives))
  by-rules Is number _ within (deps_not part is below) all =
      subst (CoreWellFormedTable (bodies_of core) Is) (sym is) (all part (omega arith) refl)

  pub well_formed-settled : (n number : ℕ) → number < length core.forms → IsSettledIn well_formedness n number
      → IsCoreWellFormedIn (bodies_of core) n (form_at core.forms number)
  unfolding IsSettledIn IsCoreWellFormedIn
  well_formed-settled zero number within settled = absurd settled
  well_formed-settled (suc n) number within settled =
      by-rules (IsCoreWellFormedIn (bodies_of core) n) number (dep_at well_formedness number) within (checked_deps number within)
      (λ part below goes. well_formed-settled n part below (settled part goes))
