-- Describes code: the levels of nodes, as one pass over the node list computes them.
use Rattle.std.specs.Prelude.{ℕ, ◌+◌, List, [], ◌∷◌, ◌++◌, length, nat_le, if◌then◌else◌}
use Rattle.peg_tree.specs.Trees.{Trees, NoTrees, Tree}
use Rattle.peg_tree.specs.Rows.{Row}

-- the level of each node in preorder, for trees whose roots have the given level
abbrev pub levels_of : ℕ → Trees → List ℕ
levels_of level NoTrees = []
levels_of level (Tree rule start end children rest) = level ∷ (levels_of (1 + level) children ++ levels_of level rest)

-- the ends of the nodes that are still open at a node number; ends are listed innermost first
abbrev pub open_at : ℕ → List ℕ → List ℕ
open_at number [] = []
open_at number (end ∷ ends) = if nat_le end number then open_at number ends else end ∷ ends

-- the level of each node of a list, computed from the ends of the open nodes
abbrev pub levels_of_rows : List ℕ → ℕ → List Row → List ℕ
levels_of_rows ends number [] = []
levels_of_rows ends number (row ∷ rows) =
    (1 + length (open_at number ends)) ∷ levels_of_rows ((number + row.size) ∷ open_at number ends) (number + 1) rows
