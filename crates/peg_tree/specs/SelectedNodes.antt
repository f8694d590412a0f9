-- Describes code: the nodes of some rules in a node list, with their new sizes.
use Rattle.std.specs.Prelude.{◌≡◌, ℕ, ◌+◌, ◌≤◌, Bool, List, [], ◌∷◌, length, map, slice_index_or, take, if◌then◌else◌}
use Rattle.peg_tree.specs.Rows.{Row, row_of}
use Rattle.peg_tree.specs.declared.row.TreeNode.{TreeNode}

-- the number of nodes of a list that are shown
abbrev pub shown_count : (shown : ℕ → Bool) → List Row → ℕ
shown_count shown [] = 0
shown_count shown (row ∷ rows) = if shown row.rule then 1 + shown_count shown rows else shown_count shown rows

-- the nodes of a list that are shown; the size of each is the number of shown nodes in its subtree
abbrev pub shown_nodes : (shown : ℕ → Bool) → List Row → List Row
shown_nodes shown [] = []
shown_nodes shown (row ∷ rows) =
    if shown row.rule
    then record row { size = shown_count shown (take row.size (row ∷ rows)) } ∷ shown_nodes shown rows
    else shown_nodes shown rows

-- the number of shown nodes before each node of a list, and last that of all nodes
pub record AreShownCounts (shown : ℕ → Bool) (nodes : List TreeNode) (counts : List ℕ) : Type 0 where
  pub count : length counts ≡ length nodes + 1
  pub each : (at : ℕ) → at ≤ length nodes
      → slice_index_or counts at 0 ≡ shown_count shown (map row_of (take at nodes))
