-- Nodes with their levels.
use Rattle.std.proofs.Common.{◌≡◌, ℕ, zero, suc, ◌+◌, ◌<◌, List, [], ◌∷◌, Some, length, get_or, map, slice_get, refl, arith}
use Rattle.std.proofs.Common.{sym, ap, ◌∙◌, ◌++◌, append_assoc, drop, set, take}
use Rattle.std.proofs.lemmas.List.{drop-drop, drop-set-lt, length-append, length-map, take_more, take_more_set}
use Rattle.std.proofs.lemmas.Option.{get_or_from_slice_get, slice_get_within}
use Rattle.peg_tree.specs.Levels.{levels_of}
use Rattle.peg_tree.specs.Rows.{Row, row_of, rows_of}
use Rattle.peg_tree.specs.Trees.{Trees, NoTrees, Tree}
use Rattle.peg_tree.specs.declared.row.TreeNode.{TreeNode}
use Rattle.peg_handle.specs.Nodes.{node_at_level, nodes_of_rows, tree_nodes}

-- the node with this number has the row and the level with this number
pub get_nodes_of_rows : (nodes : List TreeNode) (levels : List ℕ) (number : ℕ) (node : TreeNode) (level : ℕ)
    → number < length nodes → number < length levels
    → slice_get (nodes_of_rows (map row_of nodes) levels) number
    ≡ Some (node_at_level (row_of (get_or nodes number node)) (get_or levels number level))
unfolding nodes_of_rows
get_nodes_of_rows [] levels number node level of_nodes of_levels = absurd (omega arith)
get_nodes_of_rows (first ∷ nodes) [] number node level of_nodes of_levels = absurd (omega arith)
get_nodes_of_rows (first ∷ nodes) (top ∷ levels) zero node level of_nodes of_levels = refl
get_nodes_of_rows (first ∷ nodes) (top ∷ levels) (suc number) node level of_nodes of_levels =
    get_nodes_of_rows nodes levels number node level (omega arith) (omega arith)

pub length_nodes_of_rows : (rows : List Row) (levels : List ℕ) → length levels ≡ length rows
    → length (nodes_of_rows rows levels) ≡ length rows
unfolding nodes_of_rows
length_nodes_of_rows [] levels same = refl
length_nodes_of_rows (row ∷ rows) [] same = absurd (omega arith)
length_nodes_of_rows (row ∷ rows) (level ∷ levels) same = omega (arith, length_nodes_of_rows rows levels (omega arith))

-- each node has a level
pub length_levels_of : (level : ℕ) (trees : Trees) → length (levels_of level trees) ≡ length (rows_of trees)
length_levels_of level NoTrees = refl
length_levels_of level (Tree rule start end children rest) =
    omega (
      arith,
      length-append (levels_of (1 + level) children) (levels_of level rest),
      length-append (rows_of children) (rows_of rest),
      length_levels_of (1 + level) children,
      length_levels_of level rest,
    )

-- a tree has as many nodes for C code as it has nodes
pub length_tree_nodes : (tree : Trees) (nodes : List TreeNode) → map row_of nodes ≡ rows_of tree
    → length (tree_nodes tree) ≡ length nodes
length_tree_nodes tree nodes same =
    length_nodes_of_rows (rows_of tree) (levels_of 1 tree) (length_levels_of 1 tree)
    ∙ ap length (sym same) ∙ length-map nodes row_of

-- the first items and one more, by its number
pub take_more_some : {X : Type 0} (xs : List X) (i : ℕ) (x : X) → slice_get xs i ≡ Some x
    → take (i + 1) xs ≡ take i xs ++ x ∷ []
take_more_some xs i x is =
    take_more xs i x (slice_get_within xs i x is)
    ∙ ap (λ (y : _). take i xs ++ y ∷ []) (get_or_from_slice_get xs i x x is)

-- one more item of a list is written after the first items of another
pub append_more : {X : Type 0} (old out all : List X) (used i : ℕ) (x : X) → used + i < length out
    → slice_get all i ≡ Some x → take (used + i) out ≡ take used old ++ take i all
    → take (used + (i + 1)) (set out (used + i) x) ≡ take used old ++ take (i + 1) all
append_more old out all used i x within is so_far =
    let next : used + (i + 1) ≡ used + i + 1 = omega arith in
    ap (λ (n : ℕ). take n (set out (used + i) x)) next
    ∙ take_more_set out (used + i) x within
    ∙ ap (λ (front : List _). front ++ x ∷ []) so_far
    ∙ append_assoc (take used old) (take i all) (x ∷ [])
    ∙ ap (λ (front : List _). take used old ++ front) (sym (take_more_some all i x is))

-- what comes after it is as it was
pub drop_more_set : {X : Type 0} (old out : List X) (used i : ℕ) (x : X)
    → drop (used + i) out ≡ drop (used + i) old
    → drop (used + (i + 1)) (set out (used + i) x) ≡ drop (used + (i + 1)) old
drop_more_set old out used i x so_far =
    let next : used + i + 1 ≡ used + (i + 1) = omega arith in
    drop-set-lt (used + (i + 1)) out (used + i) x (omega arith)
    ∙ sym (drop-drop 1 (used + i) out ∙ ap (λ (n : ℕ). drop n out) next)
    ∙ ap (drop 1) so_far
    ∙ drop-drop 1 (used + i) old
    ∙ ap (λ (n : ℕ). drop n old) next
