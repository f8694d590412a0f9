-- The first empty loop of a core form: there is none exactly if the form has no empty loop.
use Rattle.std.proofs.Common.{◌≡◌, ℕ, zero, suc, ◌<◌, ◌⊎◌, inl, inr, All, List, Option, None, Some, length, slice_get, refl, sym, ap, ◌∙◌, subst, arith}
use Rattle.std.specs.Option.{option_or}
use Rattle.peg_bytes.specs.Extent.{Extent}
use Rattle.peg_core.specs.CoreForm.{CoreForm, Empty, Test, Rule, Seq, Choice, Star, Not}
use Rattle.peg_core.specs.CoreLoops.{IsSubformOf, IsSubformOfBody, IsCoreEmptyLoop}
use Rattle.peg_core.specs.CoreNodes.{NodeFits, shape}
use Rattle.peg_core.specs.CoreOutcomes.{CoreGivesNothing, BodyIs}
use Rattle.peg_core.specs.FormsOfNodes.{AllAreFormsOfNodes}
use Rattle.peg_core.specs.Layout.{bodies_of, Desugared, form_at}
use Rattle.peg_core.specs.declared.node.Node.{Node}
use Rattle.peg_core.specs.declared.node.Node.TheVariants as node
use Rattle.peg_check.specs.EmptyLoops.{HasNoLoop}
use Rattle.peg_check.specs.FirstLoops.{FormLoops, IsFirstCoreLoop, IsFirstInSequence}
use Rattle.peg_check.specs.Verdicts.{AreWellFormed, HasNoEmptyLoop}
use Rattle.peg_check.proofs.DepLemmas.{body-form}
use Rattle.peg_check.proofs.Refutations.{loop-refuted}

-- ---- the first of two

pub or-none : (one rest : Option Extent) → option_or one rest ≡ None → (one ≡ None) × (rest ≡ None)
or-none None rest is = (refl, is)
or-none (Some span) rest is = cc

pub or-some : (one rest : Option Extent) (span : Extent) → option_or one rest ≡ Some span
    → (one ≡ Some span) ⊎ (rest ≡ Some span)
or-some None rest span is = inr is
or-some (Some other) rest span is = inl is

module _ (bodies : List CoreForm) where
  -- a form without an empty loop has none in its part
  in_part-none : (form : CoreForm) (found : FormLoops) → IsFirstCoreLoop bodies form found → found.first ≡ None
      → found.in_part ≡ None
  in_part-none Empty found is none = is.1
  in_part-none (Test set terminal) found is none = is.1
  in_part-none (Rule rule) found is none = is.1
  in_part-none (Seq one rest) found is none = is.4.0
  in_part-none (Choice one rest) found is none = is.4
  in_part-none (Star part origin) found (a, first, in_part, inl idle) none =
      let bad : Some origin ≡ None = sym idle.1 ∙ none in cc
  in_part-none (Star part origin) found (a, first, in_part, inr never) none = in_part ∙ (sym never.1 ∙ none)
  in_part-none (Not part) found is none = is.2

  sequence-none : (one rest found : FormLoops) → (rest.first ≡ None → rest.in_part ≡ None)
      → IsFirstInSequence one rest found → found.first ≡ None → (one.first ≡ None) × (rest.first ≡ None)
  sequence-none one rest found inner (in_part, inl (same, is)) none =
      let last : rest.first ≡ None = sym is ∙ none in (sym same ∙ inner last, last)
  sequence-none one rest found inner (in_part, inr (other, is)) none = or-none one.first rest.first (sym is ∙ none)

  sequence-some : (one rest found : FormLoops) (span : Extent) → IsFirstInSequence one rest found
      → found.first ≡ Some span → (one.first ≡ Some span) ⊎ (rest.first ≡ Some span)
  sequence-some one rest found span (in_part, inl (same, is)) some = inr (sym is ∙ some)
  sequence-some one rest found span (in_part, inr (other, is)) some = or-some one.first rest.first span (sym is ∙ some)

  -- if the first empty loop is none, no star in the form is one
  pub none-first : (form : CoreForm) (found : FormLoops) → IsFirstCoreLoop bodies form found → found.first ≡ None
      → (part : CoreForm) (origin : Extent) → IsSubformOf (Star part origin) form → ¬ CoreGivesNothing bodies part
  none-first Empty found is none part origin is_subform = cc
  none-first (Test set terminal) found is none part origin is_subform = cc
  none-first (Rule rule) found is none part origin is_subform = cc
  none-first (Seq one rest) found is none part origin (inl same) = cc
  none-first (Seq one rest) found is none part origin (inr (inl here)) =
      let both = sequence-none is.0 is.1 found (in_part-none rest is.1 is.3) is.4 none in
      none-first one is.0 is.2 both.0 part origin here
  none-first (Seq one rest) found is none part origin (inr (inr there)) =
      let both = sequence-none is.0 is.1 found (in_part-none rest is.1 is.3) is.4 none in
      none-first rest is.1 is.3 both.1 part origin there
  none-first (Choice one rest) found is none part origin (inl same) = cc
  none-first (Choice one rest) found is none part origin (inr (inl here)) =
      none-first one is.0 is.2 (or-none is.0.first is.1.first (sym is.5 ∙ none)).0 part origin here
  none-first (Choice one rest) found is none part origin (inr (inr there)) =
      none-first rest is.1 is.3 (or-none is.0.first is.1.first (sym is.5 ∙ none)).1 part origin there
  none-first (Star whole span) found (a, first, in_part, inl idle) none part origin is_subform =
      let bad : Some span ≡ None = sym idle.1 ∙ none in cc
  none-first (Star whole span) found (a, first, in_part, inr never) none part origin (inl same) =
      let parts : part ≡ whole = cc in λ gives. never.0 (subst (CoreGivesNothing bodies) parts gives)
  none-first (Star whole span) found (a, first, in_part, inr never) none part origin (inr here) =
      none-first whole a first (sym never.1 ∙ none) part origin here
  none-first (Not whole) found is none part origin (inl same) = cc
  none-first (Not whole) found is none part origin (inr here) =
      none-first whole is.0 is.1 (sym is.3 ∙ none) part origin here

  -- the first empty loop is one
  pub some-first : (form : CoreForm) (found : FormLoops) (origin : Extent) → IsFirstCoreLoop bodies form found
      → found.first ≡ Some origin
      → (part : CoreForm) × (IsSubformOf (Star part origin) form × CoreGivesNothing bodies part)
  some-first Empty found origin is some = let bad : None ≡ Some origin = sym is.0 ∙ some in cc
  some-first (Test set terminal) found origin is some = let bad : None ≡ Some origin = sym is.0 ∙ some in cc
  some-first (Rule rule) found origin is some = let bad : None ≡ Some origin = sym is.0 ∙ some in cc
  some-first (Seq one rest) found origin is some =
      elim (sequence-some is.0 is.1 found origin is.4 some) [
        | inl here ↦ let loop = some-first one is.0 origin is.2 here in (loop.0, (inr (inl loop.1.0), loop.1.1))
        | inr there ↦ let loop = some-first rest is.1 origin is.3 there in (loop.0, (inr (inr loop.1.0), loop.1.1))
      ]
  some-first (Choice one rest) found origin is some =
      elim (or-some is.0.first is.1.first origin (sym is.5 ∙ some)) [
        | inl here ↦ let loop = some-first one is.0 origin is.2 here in (loop.0, (inr (inl loop.1.0), loop.1.1))
        | inr there ↦ let loop = some-first rest is.1 origin is.3 there in (loop.0, (inr (inr loop.1.0), loop.1.1))
      ]
  some-first (Star part span) found origin (a, first, in_part, inl idle) some =
      let both : Some span ≡ Some origin = sym idle.1 ∙ some in
      let same : span ≡ origin = cc in
      (part, (inl (ap (Star part) (sym same)), idle.0))
  some-first (Star part span) found origin (a, first, in_part, inr never) some =
      let loop = some-first part a origin first (sym never.1 ∙ some) in (loop.0, (inr loop.1.0, loop.1.1))
  some-first (Not part) found origin is some =
      let loop = some-first part is.0 origin is.1 (sym is.3 ∙ some) in (loop.0, (inr loop.1.0, loop.1.1))

-- ---- the parts of a numbered form are numbered

module _ (core : Desugared) (spelled : AllAreFormsOfNodes core) where
  abbrev IsNumbered : CoreForm → Type 0
  IsNumbered form = (number : ℕ) × (number < length core.forms) × (form_at core.forms number ≡ form)

  numbered-by : (form : CoreForm) (number : ℕ) → number < length core.forms → (origin : Extent) (n : Node)
      → form_at core.forms number ≡ shape core.forms origin n
      → NodeFits number (length core.bodies) (length core.spans) n
      → ((part : ℕ) → part < number → IsSubformOf form (form_at core.forms part) → IsNumbered form)
      → IsSubformOf form (shape core.forms origin n) → IsNumbered form
  numbered-by form number within origin node.Empty is fits later is_subform = (number, within, is ∙ sym is_subform)
  numbered-by form number within origin (node.Test s terminal) is fits later is_subform = (number, within, is ∙ sym is_subform)
  numbered-by form number within origin (node.Rule rule) is fits later is_subform = (number, within, is ∙ sym is_subform)
  numbered-by form number within origin (node.Seq first rest) is fits later (inl same) = (number, within, is ∙ sym same)
  numbered-by form number within origin (node.Seq first rest) is fits later (inr (inl is_subform)) = later first fits.0 is_subform
  numbered-by form number within origin (node.Seq first rest) is fits later (inr (inr is_subform)) = later rest fits.1 is_subform
  numbered-by form number within origin (node.Choice first rest) is fits later (inl same) =
      (number, within, is ∙ sym same)
  numbered-by form number within origin (node.Choice first rest) is fits later (inr (inl is_subform)) =
      later first fits.0 is_subform
  numbered-by form number within origin (node.Choice first rest) is fits later (inr (inr is_subform)) =
      later rest fits.1 is_subform
  numbered-by form number within origin (node.Star part) is fits later (inl same) = (number, within, is ∙ sym same)
  numbered-by form number within origin (node.Star part) is fits later (inr is_subform) = later part fits is_subform
  numbered-by form number within origin (node.Not part) is fits later (inl same) = (number, within, is ∙ sym same)
  numbered-by form number within origin (node.Not part) is fits later (inr is_subform) = later part fits is_subform

  pub numbered : (form : CoreForm) (bound number : ℕ) → number < bound → number < length core.forms
      → IsSubformOf form (form_at core.forms number) → IsNumbered form
  numbered form zero number less within is_subform = absurd (omega arith)
  numbered form (suc bound) number less within is_subform =
      let h = spelled number within in
      numbered-by form number within h.1.0 h.0 h.1.1 h.2
      (λ part before inside. numbered form bound part (omega arith) (omega arith) inside)
      (subst (IsSubformOf form) h.1.1 is_subform)

  -- the form has an empty loop with this span
  abbrev pub HasLoop : (origin : Extent) → CoreForm → Type 0
  HasLoop origin form = (p : CoreForm) × (IsSubformOf (Star p origin) form × CoreGivesNothing (bodies_of core) p)

  -- an empty loop of a body is one of the forms, so these aren't all well-formed
  pub loop-named : (rule body : ℕ) (origin : Extent) → slice_get core.bodies rule ≡ Some body → HasLoop origin (form_at core.forms body)
      → IsCoreEmptyLoop (bodies_of core) rule origin
  loop-named rule body origin there has = subst (BodyIs (HasLoop origin)) (sym (body-form core rule body there)) has

  pub loop-body : (rule body : ℕ) (origin : Extent) → slice_get core.bodies rule ≡ Some body
      → IsCoreEmptyLoop (bodies_of core) rule origin → HasLoop origin (form_at core.forms body)
  loop-body rule body origin there loop = subst (BodyIs (HasLoop origin)) (body-form core rule body there) loop

  pub has-refuted : (body : ℕ) (origin : Extent) → body < length core.forms → HasLoop origin (form_at core.forms body)
      → ¬ AreWellFormed core
  has-refuted body origin inside here =
      let at = numbered (Star here.0 origin) (suc body) body (omega arith) inside here.1.0 in
      loop-refuted core at.0 at.1 (here.0, origin, at.2, here.1.1)

-- ---- rules

-- a star in a body whose part can succeed without consuming a byte
in-body : (bodies : List CoreForm) (part : CoreForm) (origin : Extent) (body : Option CoreForm)
    → CoreGivesNothing bodies part → BodyIs (IsSubformOf (Star part origin)) body
    → BodyIs (λ form. (p : CoreForm) × (IsSubformOf (Star p origin) form × CoreGivesNothing bodies p)) body
in-body bodies part origin None gives is_subform = is_subform
in-body bodies part origin (Some body) gives is_subform = (part, (is_subform, gives))

-- each form is part of a body, so if no rule has an empty loop, no form is one
pub none-loops : (core : Desugared) → All (IsSubformOfBody (bodies_of core)) core.forms → HasNoEmptyLoop core → HasNoLoop core
none-loops core owned none number within loops =
    let owner = owned number Empty within in
    none owner.0 loops.1
    (in-body (bodies_of core) loops.0 loops.1 (slice_get (bodies_of core) owner.0) loops.3
    (subst (λ form. BodyIs (IsSubformOf form) (slice_get (bodies_of core) owner.0)) loops.2 owner.1))
