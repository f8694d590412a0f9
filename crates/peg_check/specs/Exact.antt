-- Exact tables: each form has exactly the outcomes that follow by Ford's rules.
use Rattle.std.specs.Prelude.{◌≡◌, ℕ, ◌↔◌, true, List, Some, length, map, slice_get, slice_index_or}
use Rattle.peg_semantics.specs.AbstractOutcomes.{Can, no_outcome}
use Rattle.peg_core.specs.CoreForm.{CoreForm}
use Rattle.peg_core.specs.CoreOutcomes.{CoreGivesNothing, CoreGivesSomething, CoreCanFail}
use Rattle.peg_core.specs.Layout.{Desugared, bodies_of, form_at}

-- each of the three outcomes is true exactly if it follows by Ford's rules
pub record IsExact (bodies : List CoreForm) (form : CoreForm) (can : Can) : Type 0 where
  pub nothing : (can.nothing ≡ true) ↔ CoreGivesNothing bodies form
  pub something : (can.something ≡ true) ↔ CoreGivesSomething bodies form
  pub fails : (can.fails ≡ true) ↔ CoreCanFail bodies form

-- the outcomes of the rules' bodies with these numbers, in a table of all forms
abbrev pub cans_of : (bodies : List ℕ) → (table : List Can) → List Can
cans_of bodies table = map (λ body. slice_index_or table body no_outcome) bodies

-- one entry for each form, and each entry is exact
pub record IsExactTable (core : Desugared) (table : List Can) : Type 0 where
  pub count : length table ≡ length core.forms
  pub exact : (number : ℕ) (can : Can) → slice_get table number ≡ Some can
      → IsExact (bodies_of core) (form_at core.forms number) can
