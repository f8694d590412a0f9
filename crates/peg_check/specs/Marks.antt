-- Describes code: settled forms. A form is settled if all its dependencies are settled, in some number of rounds. Any
-- other form depends on one that isn't settled.
use Rattle.std.specs.Prelude.{◌≡◌, ℕ, zero, suc, ◌<◌, Bool, true, false, List, length, slice_index_or, slice_set}
use Rattle.std.specs.List.{sum_by}
use Rattle.peg_check.specs.Dependencies.{DependsOn, dep_at}
use Rattle.peg_check.specs.Fixpoint.{one_unless}
use Rattle.peg_check.specs.declared.dependency.Dependency.{Dependency}

-- whether the form with a number is marked
abbrev pub is_marked : List Bool → ℕ → Bool
is_marked marks number = slice_index_or marks number false

-- the number of forms that aren't marked
abbrev pub count_unmarked : List Bool → ℕ
count_unmarked marks = sum_by one_unless marks

-- settled in n rounds: in 0 rounds no form is; above 0 all dependencies are settled in n - 1
unfoldable pub IsSettledIn : List Dependency → ℕ → ℕ → Type 0
IsSettledIn well_formedness zero number = ⊥
IsSettledIn well_formedness (suc n) number = (part : ℕ) → DependsOn (dep_at well_formedness number) part
    → IsSettledIn well_formedness n part

-- all dependencies of a link are marked
abbrev pub AllMarked : List Bool → Dependency → Type 0
AllMarked marks dep = (part : ℕ) → DependsOn dep part → is_marked marks part ≡ true

-- a dependency of a link that isn't marked
abbrev pub IsUnmarkedDep : List Bool → Dependency → ℕ → Type 0
IsUnmarkedDep marks dep part = DependsOn dep part × (is_marked marks part ≡ false)

-- a link has a dependency that isn't marked
abbrev pub HasUnmarkedDep : List Bool → Dependency → Type 0
HasUnmarkedDep marks dep = (part : ℕ) × IsUnmarkedDep marks dep part

-- The marked forms are settled, in as many rounds as there are forms. Each other form has a dependency that isn't
-- marked.
pub record AreSettled (well_formedness : List Dependency) (marks : List Bool) : Type 0 where
  pub count : length marks ≡ length well_formedness
  pub rounds : (number : ℕ) → is_marked marks number ≡ true
      → IsSettledIn well_formedness (length well_formedness) number
  pub left : (number : ℕ) → number < length well_formedness → is_marked marks number ≡ false
      → HasUnmarkedDep marks (dep_at well_formedness number)

-- a form that wasn't marked, and whose dependencies all were, is marked
pub record IsNewlyMarked (old : List Bool) (dep : Dependency) (number : ℕ) (new : List Bool) : Type 0 where
  pub was : is_marked old number ≡ false
  pub all : AllMarked old dep
  pub now : new ≡ slice_set old number true
