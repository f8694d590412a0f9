-- Trees of the nodes of some rules.
use Rattle.std.specs.Prelude.{ℕ, Bool, false, List, slice_index_or, if◌then◌else◌}
use Rattle.peg_tree.specs.Trees.{Trees, NoTrees, Tree, followed_by}

-- whether a set of rules, given by a flag for each rule number, has this rule
abbrev pub has_rule : List Bool → ℕ → Bool
has_rule flags rule = slice_index_or flags rule false

-- Adjacent trees without the nodes of rules that are not shown. The children of an omitted node take its place.
abbrev pub selected_among : (shown : ℕ → Bool) → Trees → Trees
selected_among shown NoTrees = NoTrees
selected_among shown (Tree rule start end children rest) =
    if shown rule
    then Tree rule start end (selected_among shown children) (selected_among shown rest)
    else followed_by (selected_among shown children) (selected_among shown rest)

-- a tree without the nodes of rules that are not shown, but with its root
abbrev pub selected : (shown : ℕ → Bool) → Trees → Trees
selected shown NoTrees = NoTrees
selected shown (Tree rule start end children rest) =
    Tree rule start end (selected_among shown children) (selected_among shown rest)
