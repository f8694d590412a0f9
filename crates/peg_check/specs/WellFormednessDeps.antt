-- Describes code: the forms that the well-formedness of a core form depends on (Ford 2004, section 3.6), by number.
-- These are the parts that Ford's rules for well-formed expressions check, and for a call of a rule the rule's body.
use Rattle.std.specs.Prelude.{◌≡◌, ℕ, ◌<◌, List, Some, length, slice_get}
use Rattle.peg_bytes.specs.ByteSet.{Bytes}
use Rattle.peg_bytes.specs.Extent.{Extent}
use Rattle.peg_core.specs.CoreForm.{Empty, Test, Rule, Seq, Choice, Star, Not}
use Rattle.peg_core.specs.CoreOutcomes.{CoreGivesNothing}
use Rattle.peg_core.specs.Layout.{bodies_of, Desugared, form_at}
use Rattle.peg_check.specs.Dependencies.{dep_at}
use Rattle.peg_check.specs.declared.can.Can as code
use Rattle.peg_check.specs.declared.dependency.Dependency.{Dependency}
use Rattle.peg_check.specs.declared.dependency.Dependency.TheVariants as dep

-- The link has the dependencies of the form with a number. A sequence depends on its rest only if its first part can
-- succeed without consuming a byte.
pub data HasDeps (core : Desugared) (number : ℕ) : Dependency → Type 0 where
  deps_empty : (can : code.Can) → form_at core.forms number ≡ Empty → HasDeps core number (dep.Constant can)
  deps_test : (can : code.Can) (set : Bytes) (terminal : ℕ) → form_at core.forms number ≡ Test set terminal
      → HasDeps core number (dep.Constant can)
  deps_body : (rule body : ℕ) → form_at core.forms number ≡ Rule rule → slice_get core.bodies rule ≡ Some body
      → body < length core.forms → HasDeps core number (dep.Alias body)
  deps_first : (first rest : ℕ) → form_at core.forms number ≡ Seq (form_at core.forms first) (form_at core.forms rest)
      → first < number → ¬ CoreGivesNothing (bodies_of core) (form_at core.forms first)
      → HasDeps core number (dep.Alias first)
  deps_both : (first rest : ℕ) → form_at core.forms number ≡ Seq (form_at core.forms first) (form_at core.forms rest)
      → first < number → rest < number → CoreGivesNothing (bodies_of core) (form_at core.forms first)
      → HasDeps core number (dep.Seq first rest)
  deps_either : (first rest : ℕ)
      → form_at core.forms number ≡ Choice (form_at core.forms first) (form_at core.forms rest) → first < number
      → rest < number → HasDeps core number (dep.Choice first rest)
  deps_star : (part : ℕ) (origin : Extent) → form_at core.forms number ≡ Star (form_at core.forms part) origin
      → part < number → HasDeps core number (dep.Star part)
  deps_not : (part : ℕ) → form_at core.forms number ≡ Not (form_at core.forms part) → part < number
      → HasDeps core number (dep.Not part)

-- each form has the dependencies of its link
abbrev pub AreWellFormednessDeps : Desugared → List Dependency → Type 0
AreWellFormednessDeps core well_formedness = (number : ℕ) → number < length core.forms
    → HasDeps core number (dep_at well_formedness number)
