-- Parse trees: one node for each successful call of a rule outside predicates and abandoned alternatives. They record
-- the nonterminal calls of a derivation in Ford 2004, section 3.3.
use Rattle.std.specs.Prelude.{ℕ, ◌+◌, max}

-- Adjacent trees, in the order of the text: none, or one tree and the trees after it. A tree has a rule number, the
-- positions of its start and end, and its children.
pub data Trees : Type 0 where
  NoTrees : Trees
  Tree : (rule start end : ℕ) → (children rest : Trees) → Trees

-- one list of trees followed by another
abbrev pub followed_by : Trees → Trees → Trees
followed_by NoTrees more = more
followed_by (Tree rule start end children rest) more = Tree rule start end children (followed_by rest more)

-- the number of nodes
abbrev pub nodes : Trees → ℕ
nodes NoTrees = 0
nodes (Tree rule start end children rest) = 1 + nodes children + nodes rest

-- the number of levels; a tree without children has one level
abbrev pub levels : Trees → ℕ
levels NoTrees = 0
levels (Tree rule start end children rest) = max (1 + levels children) (levels rest)
