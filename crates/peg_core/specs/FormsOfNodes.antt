-- An invariant of numbered core forms: each is the form of a node.
use Rattle.std.specs.Prelude.{ℕ, ◌<◌, List, length}
use Rattle.peg_core.specs.CoreForm.{CoreForm}
use Rattle.peg_core.specs.CoreNodes.{NodeFits, IsFormOfNode}
use Rattle.peg_core.specs.Layout.{Desugared}
use Rattle.peg_core.specs.declared.node.Node.{Node}

-- each form is the form of a node that fits at its number, with this number of rules and of terminals
abbrev pub AreFormsOfNodes : List CoreForm → (rules terminals : ℕ) → Type 0
AreFormsOfNodes forms rules terminals =
    (number : ℕ) → number < length forms
    → (node : Node) × IsFormOfNode forms number node × NodeFits number rules terminals node

-- the same for the core forms of a grammar: their parts have smaller numbers, and their rules and terminals exist
abbrev pub AllAreFormsOfNodes : Desugared → Type 0
AllAreFormsOfNodes core = AreFormsOfNodes core.forms (length core.bodies) (length core.spans)
