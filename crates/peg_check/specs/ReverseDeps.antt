-- Describes code: reverse dependencies as chains of entries, the newest first. Entry n is at index n - 1, and 0 is
-- none.
use Rattle.std.specs.Prelude.{◌≡◌, ℕ, suc, ◌<◌, ◌≤◌, List, Some, length, slice_get, slice_index, slice_index_or}
use Rattle.peg_check.specs.Dependencies.{DependsOn}
use Rattle.peg_check.specs.declared.dependency.Dependency.{Dependency}
use Rattle.peg_check.specs.declared.reverse_deps.Edge.{Edge}
use Rattle.peg_check.specs.declared.reverse_deps.ReverseDeps.{ReverseDeps}

-- the chain from an entry to older ones contains this user
pub data ChainContains (entries : List Edge) : (from dependent : ℕ) → Type 0 where
  here : (at dependent : ℕ) (entry : Edge) → slice_get entries at ≡ Some entry → entry.dependent ≡ dependent
      → ChainContains entries (suc at) dependent
  there : (at dependent : ℕ) (entry : Edge) → slice_get entries at ≡ Some entry
      → ChainContains entries entry.older dependent
      → ChainContains entries (suc at) dependent

-- the chain of a form contains this user
abbrev pub HasDependent : ReverseDeps → (part dependent : ℕ) → Type 0
HasDependent reverse_deps part dependent = ChainContains reverse_deps.entries.items
    (slice_index reverse_deps.newest.items part) dependent

-- chains for `count` forms, whose entries lead to older ones and to users among these forms
pub record AreChains (count : ℕ) (reverse_deps : ReverseDeps) : Type 0 where
  pub forms : length reverse_deps.newest.items ≡ count
  pub newest : (part : ℕ) → part < count
      → slice_index reverse_deps.newest.items part ≤ length reverse_deps.entries.items
  pub older : (at : ℕ) (entry : Edge) → slice_get reverse_deps.entries.items at ≡ Some entry → entry.older ≤ at
  pub dependents : (at : ℕ) (entry : Edge) → slice_get reverse_deps.entries.items at ≡ Some entry
      → entry.dependent < count

-- each user that was in a chain still is
abbrev pub KeepsDependents : ReverseDeps → ReverseDeps → Type 0
KeepsDependents old new = (part dependent : ℕ) → HasDependent old part dependent → HasDependent new part dependent

-- each form that depends on a form is in the chain of that form
abbrev pub HasAllDependents : ReverseDeps → List Dependency → Type 0
HasAllDependents reverse_deps deps =
    (dependent : ℕ) (d : Dependency) (part : ℕ) → dependent < length deps
    → DependsOn (slice_index_or deps dependent d) part
    → HasDependent reverse_deps part dependent
