-- Describes code: the printed forms of trees.
use Rattle.std.specs.Prelude.{Bool, true, false}
use Rattle.peg_json.specs.declared.tree_form.TreeForm.{TreeForm}
use Rattle.peg_json.specs.declared.tree_form.TreeForm.TheVariants.{Nested, Rows, NoTree}

-- the form that the option for a list of nodes asks for
abbrev pub form_from_rows : (rows : Bool) → TreeForm
form_from_rows false = Nested
form_from_rows true = Rows

-- the form that the options for a list of nodes and for no tree ask for
abbrev pub form_from_options : (rows no_tree : Bool) → TreeForm
form_from_options rows false = form_from_rows rows
form_from_options rows true = NoTree
