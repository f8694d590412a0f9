-- When an item fails at a position of a text, by Ford's relation (Ford 2004, section 3.3).
use Rattle.std.specs.Prelude.{◌≡◌, ℕ, List, Some, slice_get}
use Rattle.peg_semantics.specs.Form.{Form}
use Rattle.peg_semantics.specs.Record.{Failed, IsRecord, Record}
use Rattle.peg_semantics.specs.Rules.{Rule}
use Rattle.peg_diagnostics.specs.Items.{forms_of_items}

-- The item with a number fails at a position: its expression has a record there, whose result is failure. The number of
-- the expression's first terminal, here 0, has no effect on the result.
pub record ItemFails (rules : List Rule) (text : List ℕ) (item position : ℕ) : Type 0 where
  pub expression : Form
  pub is : slice_get (forms_of_items rules) item ≡ Some expression
  pub recognition : Record
  pub is_record : IsRecord rules text expression 0 position recognition
  pub fails : recognition.result ≡ Failed
