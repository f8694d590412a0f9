-- The trees that a preorder node list denotes, computed from the last node to the first.
use Rattle.std.specs.Prelude.{◌≡◌, ℕ, ◌+◌, ◌-◌, List, [], ◌∷◌, nat_le, if◌then◌else◌}
use Rattle.peg_tree.specs.Trees.{Trees, NoTrees, Tree, nodes}
use Rattle.peg_tree.specs.Rows.{Row, rows_of}

-- the leading whole trees within the first `count` nodes
abbrev pub first_trees : ℕ → Trees → Trees
first_trees count NoTrees = NoTrees
first_trees count (Tree rule start end children rest) =
    if nat_le (1 + nodes children) count
    then Tree rule start end children (first_trees (count - (1 + nodes children)) rest)
    else NoTrees

-- the trees after those
abbrev pub trees_after : ℕ → Trees → Trees
trees_after count NoTrees = NoTrees
trees_after count (Tree rule start end children rest) =
    if nat_le (1 + nodes children) count
    then trees_after (count - (1 + nodes children)) rest
    else Tree rule start end children rest

-- the trees that a node list denotes: each node takes as its children the trees within its subtree size
abbrev pub trees_of : List Row → Trees
trees_of [] = NoTrees
trees_of (row ∷ rows) =
    Tree row.rule row.start row.end (first_trees (row.size - 1) (trees_of rows))
    (trees_after (row.size - 1) (trees_of rows))

-- the node list is adjacent whole trees and nothing else
abbrev pub IsForest : List Row → Type 0
IsForest rows = rows_of (trees_of rows) ≡ rows
