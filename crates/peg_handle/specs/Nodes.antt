-- The nodes that C code gets of a tree.
use Rattle.std.specs.Prelude.{ℕ, List, [], ◌∷◌, min}
use Rattle.peg_tree.specs.Levels.{levels_of}
use Rattle.peg_tree.specs.Rows.{Row, rows_of}
use Rattle.peg_tree.specs.Trees.{Trees}
use Rattle.peg_tree.specs.declared.outcome.Parsed.{Parsed}
use Rattle.peg_tree.specs.declared.outcome.Parsed.TheVariants as parsed
use Rattle.peg_handle.specs.declared.content.Match.{Match}
use Rattle.peg_handle.specs.declared.nodes.Node.{Node}

-- the greatest level that a node can give
abbrev pub max_level : ℕ
max_level = 4294967295

-- a node of a tree, with its level
abbrev pub node_at_level : Row → (level : ℕ) → Node
node_at_level row level =
    record { rule = row.rule; start = row.start; end = row.end; level = min level max_level; size = row.size }

-- the nodes of a preorder list, with these levels
unfoldable pub nodes_of_rows : List Row → (levels : List ℕ) → List Node
nodes_of_rows [] levels = []
nodes_of_rows (row ∷ rows) [] = []
nodes_of_rows (row ∷ rows) (level ∷ levels) = node_at_level row level ∷ nodes_of_rows rows levels

-- the nodes of a tree, in preorder
abbrev pub tree_nodes : Trees → List Node
tree_nodes tree = nodes_of_rows (rows_of tree) (levels_of 1 tree)

-- the nodes of the tree of a result; none if no prefix of the text matched
abbrev pub parsed_nodes : Parsed → List Node
parsed_nodes parsed.Failed = []
parsed_nodes (parsed.Matched end tree) = tree_nodes tree

-- the nodes of an answer
abbrev pub match_nodes : Match → List Node
match_nodes found = parsed_nodes found.answer.outcome.result
