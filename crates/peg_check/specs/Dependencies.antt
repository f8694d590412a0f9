-- Describes code: the forms that a core form's outcomes depend on, by number.
use Rattle.std.specs.Prelude.{◌≡◌, ℕ, ◌<◌, ◌⊎◌, List, [], ◌∷◌, length, slice_index_or}
use Rattle.peg_semantics.specs.AbstractOutcomes.{Can, seq_outcome, choice_outcome, star_outcome, not_outcome}
use Rattle.peg_core.specs.CoreForm.{CoreForm}
use Rattle.peg_core.specs.CoreOutcomes.{CoreOutcomeOf, core_can_table}
use Rattle.peg_core.specs.Layout.{bodies_of, Desugared, form_at}
use Rattle.peg_check.specs.Cans.{can_of, nothing_known}
use Rattle.peg_check.specs.declared.dependency.Dependency.{Dependency}
use Rattle.peg_check.specs.declared.dependency.Dependency.TheVariants as dep

-- the outcomes of a form, from the outcomes of the form with each number
abbrev pub outcome_by : (ℕ → Can) → Dependency → Can
outcome_by can (dep.Constant known) = can_of known
outcome_by can (dep.Alias part) = can part
outcome_by can (dep.Seq first rest) = seq_outcome (can first) (can rest)
outcome_by can (dep.Choice first rest) = choice_outcome (can first) (can rest)
outcome_by can (dep.Star part) = star_outcome (can part)
outcome_by can (dep.Not part) = not_outcome (can part)

-- the link of the form with a number
abbrev pub dep_at : List Dependency → ℕ → Dependency
dep_at deps number = slice_index_or deps number (dep.Constant nothing_known)

-- the dependencies of a link are below `count`
abbrev pub DepFits : (count : ℕ) → Dependency → Type 0
DepFits count (dep.Constant known) = Unit {0}
DepFits count (dep.Alias part) = part < count
DepFits count (dep.Seq first rest) = (first < count) × (rest < count)
DepFits count (dep.Choice first rest) = (first < count) × (rest < count)
DepFits count (dep.Star part) = part < count
DepFits count (dep.Not part) = part < count

-- a link depends on the form with this number
abbrev pub DependsOn : Dependency → ℕ → Type 0
DependsOn (dep.Constant known) number = ⊥
DependsOn (dep.Alias part) number = part ≡ number
DependsOn (dep.Seq first rest) number = (first ≡ number) ⊎ (rest ≡ number)
DependsOn (dep.Choice first rest) number = (first ≡ number) ⊎ (rest ≡ number)
DependsOn (dep.Star part) number = part ≡ number
DependsOn (dep.Not part) number = part ≡ number

-- the dependencies of a link, in order
abbrev pub dep_parts : Dependency → List ℕ
dep_parts (dep.Constant known) = []
dep_parts (dep.Alias part) = part ∷ []
dep_parts (dep.Seq first rest) = first ∷ rest ∷ []
dep_parts (dep.Choice first rest) = first ∷ rest ∷ []
dep_parts (dep.Star part) = part ∷ []
dep_parts (dep.Not part) = part ∷ []

-- the link gives a form the same outcomes as Ford's rules do, whatever the outcomes of other forms are
pub record IsDependencyOf (core : Desugared) (form : CoreForm) (dep : Dependency) : Type 0 where
  pub fits : DepFits (length core.forms) dep
  pub agrees : (check_core : CoreOutcomeOf)
      → core_can_table (bodies_of core) check_core form ≡ outcome_by (λ part. check_core (form_at core.forms part)) dep

-- each form has its link
abbrev pub AreDependencies : Desugared → List Dependency → Type 0
AreDependencies core deps =
    (number : ℕ) (d : Dependency) → number < length deps
    → IsDependencyOf core (form_at core.forms number) (slice_index_or deps number d)
