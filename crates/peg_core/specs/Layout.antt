-- Numbered core forms, as definitions see them.
use Rattle.std.specs.Prelude.{ℕ, ◌*◌, List, map, slice_index_or}
use Rattle.peg_bytes.specs.Extent.{Extent}
use Rattle.peg_core.specs.CoreForm.{CoreForm, Empty}
use Rattle.peg_semantics.specs.Grammar.{max_parts}

-- the number of rules, the form of each number, and the span of each terminal
pub record Layout : Type 0 where
  pub rules : ℕ
  pub forms : List CoreForm
  pub spans : List Extent

-- the forms, the number of each rule's body, and the span of each terminal
pub record Desugared : Type 0 where
  pub forms : List CoreForm
  pub bodies : List ℕ
  pub spans : List Extent

-- the form with a number
abbrev pub form_at : List CoreForm → ℕ → CoreForm
form_at forms number = slice_index_or forms number Empty

-- the rules' bodies as forms
abbrev pub bodies_of : Desugared → List CoreForm
bodies_of core = map (form_at core.forms) core.bodies

-- the most forms for one part of the weight: a count of up to 255 iterations has two for each, and the empty form
abbrev pub max_forms_each : ℕ
max_forms_each = 511

-- the most forms of a grammar: `max_forms_each` for each part of the greatest weight
abbrev pub max_forms : ℕ
max_forms = max_forms_each * max_parts
