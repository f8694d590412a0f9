-- Describes code: the trees that a `Forest` and a `Branch` represent.
use Rattle.std.specs.Prelude.{map}
use Rattle.peg_tree.specs.Rows.{row_of}
use Rattle.peg_tree.specs.Trees.{Trees, NoTrees, Tree}
use Rattle.peg_tree.specs.TreesOfRows.{trees_of}
use Rattle.peg_tree.specs.declared.forest.Branch.{Branch}
use Rattle.peg_tree.specs.declared.forest.Forest.{Forest}

-- the trees of a forest, in order
abbrev pub trees_in : Forest → Trees
trees_in forest = trees_of (map row_of forest.rows.now)

-- a tree followed by the trees after it, and the tree alone
abbrev pub trees_from_branch : Branch → Trees
trees_from_branch branch =
    Tree branch.rule branch.span.start branch.span.end (trees_in branch.children) (trees_in branch.rest)

abbrev pub tree_of_branch : Branch → Trees
tree_of_branch branch = Tree branch.rule branch.span.start branch.span.end (trees_in branch.children) NoTrees
