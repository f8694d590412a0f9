-- Trees as preorder node lists; each node has the size of its subtree.
use Rattle.std.specs.Prelude.{◌≡◌, ℕ, ◌+◌, List, [], ◌∷◌, ◌++◌}
use Rattle.peg_tree.specs.Trees.{Trees, NoTrees, Tree, nodes}
use Rattle.peg_tree.specs.declared.row.TreeNode.{TreeNode}

-- a node: its rule number, its start and end, and the number of nodes of its subtree, itself included
pub record Row : Type 0 where
  pub rule : ℕ
  pub start : ℕ
  pub end : ℕ
  pub size : ℕ

-- the node in a `TreeNode`
abbrev pub row_of : TreeNode → Row
row_of node = record { rule = node.rule; start = node.span.start; end = node.span.end; size = node.size }

-- the preorder node list of trees
abbrev pub rows_of : Trees → List Row
rows_of NoTrees = []
rows_of (Tree rule start end children rest) =
    record { rule = rule; start = start; end = end; size = 1 + nodes children } ∷ (rows_of children ++ rows_of rest)

-- the node list is exactly one tree
pub record IsOneTree (rows : List Row) : Type 0 where
  pub rule : ℕ
  pub start : ℕ
  pub end : ℕ
  pub children : Trees
  pub spelled : rows ≡ rows_of (Tree rule start end children NoTrees)
