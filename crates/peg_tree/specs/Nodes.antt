-- The nodes of trees by number: in preorder, from 0.
use Rattle.std.specs.Prelude.{ℕ, zero, suc, ◌+◌, ◌-◌, ◌<◌, nat_lt, if◌then◌else◌}
use Rattle.peg_tree.specs.Trees.{Trees, NoTrees, Tree, nodes}

-- a node: its rule number, its start and end in the text, and its children
pub record Node : Type 0 where
  pub rule : ℕ
  pub start : ℕ
  pub end : ℕ
  pub children : Trees

-- the root of the first tree; for no trees, a node of zeros without children
abbrev pub first_root : Trees → Node
first_root NoTrees = record { rule = 0; start = 0; end = 0; children = NoTrees }
first_root (Tree rule start end children rest) = record { rule = rule; start = start; end = end; children = children }

-- the node with the given number in preorder
abbrev pub node_at : Trees → ℕ → Node
node_at NoTrees number = first_root NoTrees
node_at (Tree rule start end children rest) zero = first_root (Tree rule start end children rest)
node_at (Tree rule start end children rest) (suc number) =
    if nat_lt number (nodes children) then node_at children number else node_at rest (number - nodes children)

-- the number of adjacent trees
abbrev pub root_count : Trees → ℕ
root_count NoTrees = 0
root_count (Tree rule start end children rest) = 1 + root_count rest

-- the trees from index `nth` on
abbrev pub trees_from : ℕ → Trees → Trees
trees_from zero trees = trees
trees_from (suc nth) NoTrees = NoTrees
trees_from (suc nth) (Tree rule start end children rest) = trees_from nth rest

-- the number of nodes of the trees before index `nth`
abbrev pub nodes_before : ℕ → Trees → ℕ
nodes_before zero trees = 0
nodes_before (suc nth) NoTrees = 0
nodes_before (suc nth) (Tree rule start end children rest) = 1 + nodes children + nodes_before nth rest

-- the number of the child at index `nth` of node `number`
abbrev pub child_at : Trees → (number nth : ℕ) → ℕ
child_at trees number nth = number + 1 + nodes_before nth (node_at trees number).children

-- every rule number is below the bound
abbrev pub RulesBelow : ℕ → Trees → Type 0
RulesBelow bound NoTrees = Unit {0}
RulesBelow bound (Tree rule start end children rest) =
    (rule < bound) × RulesBelow bound children × RulesBelow bound rest
