-- The nodes of trees in a run that shows some rules.
use Rattle.std.specs.Prelude.{ℕ, Bool, List}
use Rattle.peg_tree.specs.Rows.{Row, rows_of}
use Rattle.peg_tree.specs.Selected.{selected_among}
use Rattle.peg_tree.specs.Trees.{Trees}

-- whether matches of a rule have nodes
abbrev pub Shown : Type 0
Shown = ℕ → Bool

-- the nodes of trees: those of rules that are shown
abbrev pub shown_rows : Shown → Trees → List Row
shown_rows shown trees = rows_of (selected_among shown trees)
