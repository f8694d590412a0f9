-- The first empty loop in written order, named by a fault. For rules as written, and for core forms.
use Rattle.std.specs.Prelude.{◌≡◌, ◌⊎◌, ℕ, ◌<◌, List, Option, None, Some, slice_get}
use Rattle.std.specs.Option.{option_or}
use Rattle.peg_bytes.specs.Extent.{Extent, extent}
use Rattle.peg_core.specs.CoreForm.{CoreForm, Empty, Test, Rule, Seq, Choice, Star, Not}
use Rattle.peg_core.specs.CoreLoops.{IsCoreEmptyLoop}
use Rattle.peg_core.specs.CoreOutcomes.{CoreGivesNothing, BodyIs}
use Rattle.peg_semantics.specs.Rules as grammar
use Rattle.peg_semantics.specs.WrittenLoops.{IsFirstEmptyLoop}
use Rattle.peg_check.specs.declared.fault.CheckFault.{CheckFault}
use Rattle.peg_check.specs.declared.fault.CheckFault.TheVariants.{EmptyLoop, LeftRecursion, Memory}

-- ---- rules as written

-- a fault that names an empty loop names the first one
abbrev pub NamesFirstLoop : List grammar.Rule → CheckFault → Type 0
NamesFirstLoop rules (EmptyLoop rule span) = IsFirstEmptyLoop rules rule (extent span)
NamesFirstLoop rules (LeftRecursion path) = Unit {0}
NamesFirstLoop rules Memory = Unit {0}

-- ---- core forms

-- the spans of the first empty loop in a form and, if the form is a star, of the first one in its part
pub record FormLoops : Type 0 where
  pub first : Option Extent
  pub in_part : Option Extent

-- The first empty loop of a sequence of two forms. The core form of `e+` is `e e*`, and the plus comes before its part.
-- So a star whose part has the same first empty loop as the form before it comes first.
abbrev pub IsFirstInSequence : (one rest found : FormLoops) → Type 0
IsFirstInSequence one rest found =
    (found.in_part ≡ None)
    × (((rest.in_part ≡ one.first) × (found.first ≡ rest.first))
    ⊎ (¬ (rest.in_part ≡ one.first) × (found.first ≡ option_or one.first rest.first)))

-- the first empty loop of a form: a star comes before its part, and parts come from left to right
abbrev pub IsFirstCoreLoop : List CoreForm → CoreForm → FormLoops → Type 0
IsFirstCoreLoop bodies Empty found = (found.first ≡ None) × (found.in_part ≡ None)
IsFirstCoreLoop bodies (Test set terminal) found = (found.first ≡ None) × (found.in_part ≡ None)
IsFirstCoreLoop bodies (Rule rule) found = (found.first ≡ None) × (found.in_part ≡ None)
IsFirstCoreLoop bodies (Seq one rest) found =
    (a : FormLoops) × (b : FormLoops) × IsFirstCoreLoop bodies one a × IsFirstCoreLoop bodies rest b
    × IsFirstInSequence a b found
IsFirstCoreLoop bodies (Choice one rest) found =
    (a : FormLoops) × (b : FormLoops) × IsFirstCoreLoop bodies one a × IsFirstCoreLoop bodies rest b
    × (found.in_part ≡ None) × (found.first ≡ option_or a.first b.first)
IsFirstCoreLoop bodies (Star part origin) found =
    (a : FormLoops) × IsFirstCoreLoop bodies part a × (found.in_part ≡ a.first)
    × ((CoreGivesNothing bodies part × (found.first ≡ Some origin))
    ⊎ (¬ CoreGivesNothing bodies part × (found.first ≡ a.first)))
IsFirstCoreLoop bodies (Not part) found =
    (a : FormLoops) × IsFirstCoreLoop bodies part a × (found.in_part ≡ None) × (found.first ≡ a.first)

-- a body's first empty loop has this span
abbrev pub HasFirstLoop : List CoreForm → (origin : Extent) → CoreForm → Type 0
HasFirstLoop bodies origin body = (found : FormLoops) × IsFirstCoreLoop bodies body found × (found.first ≡ Some origin)

-- The rule is the first one that has an empty loop, and its first one has this span.
pub record IsFirstCoreEmptyLoop (bodies : List CoreForm) (rule : ℕ) (origin : Extent) : Type 0 where
  pub first : BodyIs (HasFirstLoop bodies origin) (slice_get bodies rule)
  pub earlier : (before : ℕ) (other : Extent) → before < rule → ¬ IsCoreEmptyLoop bodies before other

-- a fault that names an empty loop names the first one
abbrev pub NamesFirstCoreLoop : List CoreForm → CheckFault → Type 0
NamesFirstCoreLoop bodies (EmptyLoop rule span) = IsFirstCoreEmptyLoop bodies rule (extent span)
NamesFirstCoreLoop bodies (LeftRecursion path) = Unit {0}
NamesFirstCoreLoop bodies Memory = Unit {0}
