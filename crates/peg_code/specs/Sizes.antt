-- Describes code: the sizes of the code of core forms, computed before any code is emitted.
use Rattle.std.specs.Prelude.{◌≡◌, ℕ, ◌+◌, ◌<◌, ◌≤◌, List, length, min, slice_index_or}
use Rattle.peg_core.specs.CoreForm.{CoreForm, Empty, Test, Rule, Seq, Choice, Star, Not}
use Rattle.peg_core.specs.Layout.{form_at}
use Rattle.peg_code.specs.Code.{code_of, size}
use Rattle.peg_code.specs.Compiled.{max_instructions}
use Rattle.peg_code.specs.declared.sizes.FormSize.{FormSize}

-- a count, capped at one more than the limit
abbrev pub capped : ℕ → ℕ
capped count = min count (max_instructions + 1)

-- the form is no sequence with a part that has no code
abbrev pub IsTight : CoreForm → Type 0
IsTight Empty = Unit {0}
IsTight (Test set terminal) = Unit {0}
IsTight (Rule rule) = Unit {0}
IsTight (Seq first rest) = (0 < size first) × (0 < size rest)
IsTight (Choice first rest) = Unit {0}
IsTight (Star part origin) = Unit {0}
IsTight (Not part) = Unit {0}

-- the two forms have the same code, wherever it starts
pub record HaveSameCode (form other : CoreForm) : Type 0 where
  pub same : (pc : ℕ) → code_of form pc ≡ code_of other pc

-- the plan of a form: its size is the capped size of the form; the form to emit is tight and has the same code
pub record IsFormSize (forms : List CoreForm) (number : ℕ) (form_size : FormSize) : Type 0 where
  pub counts : form_size.size ≡ capped (size (form_at forms number))
  pub within : form_size.form ≤ number
  pub same : HaveSameCode (form_at forms form_size.form) (form_at forms number)
  pub tight : IsTight (form_at forms form_size.form)

-- these are the plans of the first forms
abbrev pub AreFormSizesSoFar : List CoreForm → List FormSize → Type 0
AreFormSizesSoFar forms form_sizes =
    (k : ℕ) (d : FormSize) → k < length form_sizes → IsFormSize forms k (slice_index_or form_sizes k d)

-- these are the plans of all forms
pub record AreFormSizes (forms : List CoreForm) (form_sizes : List FormSize) : Type 0 where
  pub count : length form_sizes ≡ length forms
  pub each : AreFormSizesSoFar forms form_sizes

-- the terminals of all tests in a form are among the first `terminals`
abbrev pub TestsFit : (terminals : ℕ) → CoreForm → Type 0
TestsFit terminals Empty = Unit {0}
TestsFit terminals (Test set terminal) = terminal < terminals
TestsFit terminals (Rule rule) = Unit {0}
TestsFit terminals (Seq first rest) = TestsFit terminals first × TestsFit terminals rest
TestsFit terminals (Choice first rest) = TestsFit terminals first × TestsFit terminals rest
TestsFit terminals (Star part origin) = TestsFit terminals part
TestsFit terminals (Not part) = TestsFit terminals part

-- the terminals of all tests in the first `count` forms are among the first `terminals`
abbrev pub TestsFitSoFar : (terminals : ℕ) → List CoreForm → (count : ℕ) → Type 0
TestsFitSoFar terminals forms count = (k : ℕ) → k < count → TestsFit terminals (form_at forms k)
