-- The JSON of a tree's node list.
use Rattle.std.proofs.Common.{◌≡◌, ℕ, zero, suc, ◌+◌, ◌<◌, ◌≤◌, List, [], ◌∷◌, ◌++◌, length, drop, get_or, map, refl, subst, sym, ◌∙◌, ap, arith, append_assoc, append-nil}
use Rattle.std.proofs.lemmas.List.{drop_all, drop_more, length-append, map_push}
use Rattle.serde_json.specs.Data.{Data}
use Rattle.serde_json.specs.View.{view}
use Rattle.serde_json.specs.declared.value.Value.{Value}
use Rattle.peg_tree.specs.declared.row.TreeNode.{TreeNode}
use Rattle.peg_tree.specs.Json.{row_data, rows_data}
use Rattle.peg_tree.specs.Levels.{levels_of}
use Rattle.peg_tree.specs.Names.{name_at}
use Rattle.peg_tree.specs.Nodes.{RulesBelow}
use Rattle.peg_tree.specs.Rows.{Row, row_of, rows_of, IsOneTree}
use Rattle.peg_tree.specs.Trees.{Trees, NoTrees, Tree, nodes}
use Rattle.peg_tree.specs.TreesOfRows.{trees_of}
use Rattle.peg_tree.proofs.Forests.{IsForest-from_one_tree, rows_from}
use Rattle.peg_tree.proofs.ItemRows.{items_of_trees, items_with_levels, items_with_levels-rows_of}

-- the contents of a list of values after one more value
pub map-view-push : (values more : List Value) (value : Value) → more ≡ values ++ value ∷ [] → map view more ≡ map view values ++ view value ∷ []
map-view-push values more value added = ap (map view) added ∙ map_push view values value

-- a node as a list, with the name of its rule
abbrev pub named_row : List (List ℕ) → (level : ℕ) → Row → Data
named_row names level row = row_data level (name_at names row.rule) row.start row.end

-- nodes with their levels
abbrev pub rows_with_levels : List (List ℕ) → List ℕ → List Row → List Data
rows_with_levels names = items_with_levels (named_row names)

-- the items of trees are their node list
pub items_of_trees-named : (names : List (List ℕ)) (level : ℕ) (trees : Trees)
    → items_of_trees (named_row names) level trees ≡ rows_data names level trees
items_of_trees-named names level NoTrees = refl
items_of_trees-named names level (Tree rule start end children rest) =
    let node = row_data level (name_at names rule) start end in
    ap (λ l. node ∷ (l ++ items_of_trees (named_row names) level rest)) (items_of_trees-named names (1 + level) children)
    ∙ ap (λ l. node ∷ (rows_data names (1 + level) children ++ l)) (items_of_trees-named names level rest)

-- the nodes of trees with their levels
pub rows_with_levels-rows_of : (names : List (List ℕ)) (trees : Trees) → rows_with_levels names (levels_of 1 trees) (rows_of trees) ≡ rows_data names 1 trees
rows_with_levels-rows_of names trees =
    items_with_levels-rows_of (named_row names) trees ∙ items_of_trees-named names 1 trees

-- there is one level for each node
pub length-levels_of : (level : ℕ) (trees : Trees) → length (levels_of level trees) ≡ nodes trees
length-levels_of level NoTrees = refl
length-levels_of level (Tree rule start end children rest) =
    omega (arith, length-append (levels_of (1 + level) children) (levels_of level rest), length-levels_of (1 + level) children, length-levels_of level rest)

-- one more node
pub rows_with_levels-more : (names : List (List ℕ)) (levels : List ℕ) (rows : List TreeNode) (at level : ℕ) (node : TreeNode)
    → at < length levels → at < length rows → level ≡ get_or levels at level → node ≡ get_or rows at node
    → (done more whole : List Data) (new : Data)
    → new ≡ row_data level (name_at names node.rule) node.span.start node.span.end → more ≡ done ++ new ∷ []
    → done ++ rows_with_levels names (drop at levels) (map row_of (drop at rows)) ≡ whole
    → more ++ rows_with_levels names (drop (at + 1) levels) (map row_of (drop (at + 1) rows)) ≡ whole
rows_with_levels-more names levels rows at level node few within here is done more whole new made added same =
    let rest = rows_with_levels names (drop (at + 1) levels) (map row_of (drop (at + 1) rows)) in
    ap (λ l. l ++ rest) added
    ∙ append_assoc done (new ∷ []) rest
    ∙ ap (λ d. done ++ d ∷ rest) made
    ∙ sym (
    ap (λ l. done ++ rows_with_levels names l (map row_of (drop at rows))) (drop_more levels at level few ∙ ap (λ n. n ∷ drop (at + 1) levels) (sym here))
    ∙ ap (λ l. done ++ rows_with_levels names (level ∷ drop (at + 1) levels) l) (rows_from rows at node within is))
    ∙ same

-- at the end all nodes are converted
pub rows_with_levels-all : (names : List (List ℕ)) (levels : List ℕ) (rows : List TreeNode) (tree : Trees) (at : ℕ) (made : List Data)
    → IsOneTree (map row_of rows) → trees_of (map row_of rows) ≡ tree → levels ≡ levels_of 1 (trees_of (map row_of rows)) → length levels ≤ at
    → made ++ rows_with_levels names (drop at levels) (map row_of (drop at rows)) ≡ rows_with_levels names levels (map row_of rows)
    → made ≡ rows_data names 1 tree
rows_with_levels-all names levels rows tree at made one same are_levels done all =
    sym (append-nil made)
    ∙ ap (λ l. made ++ rows_with_levels names l (map row_of (drop at rows))) (sym (drop_all at levels done))
    ∙ all
    ∙ ap (λ l. rows_with_levels names l (map row_of rows)) are_levels
    ∙ ap (rows_with_levels names (levels_of 1 (trees_of (map row_of rows)))) (sym (IsForest-from_one_tree (map row_of rows) one))
    ∙ rows_with_levels-rows_of names (trees_of (map row_of rows))
    ∙ ap (rows_data names 1) same

-- every node has a rule number below the bound
abbrev pub EachBelow : ℕ → List Row → Type 0
EachBelow bound [] = Unit {0}
EachBelow bound (row ∷ rows) = (row.rule < bound) × EachBelow bound rows

EachBelow-append : (bound : ℕ) (rows more : List Row) → EachBelow bound rows → EachBelow bound more → EachBelow bound (rows ++ more)
EachBelow-append bound [] more h k = k
EachBelow-append bound (row ∷ rows) more h k = (h.0, EachBelow-append bound rows more h.1 k)

pub EachBelow-rows_of : (bound : ℕ) (trees : Trees) → RulesBelow bound trees → EachBelow bound (rows_of trees)
EachBelow-rows_of bound NoTrees h = tt
EachBelow-rows_of bound (Tree rule start end children rest) h =
    (h.0, EachBelow-append bound (rows_of children) (rows_of rest) (EachBelow-rows_of bound children h.1) (EachBelow-rows_of bound rest h.2))

EachBelow-at : (bound : ℕ) (rows : List TreeNode) (at : ℕ) (node : TreeNode) → EachBelow bound (map row_of rows) → at < length rows → node ≡ get_or rows at node → node.rule < bound
EachBelow-at bound [] at node h within is = absurd (omega arith)
EachBelow-at bound (row ∷ rows) zero node h within is = subst (λ (n : TreeNode). n.rule < bound) (sym is) h.0
EachBelow-at bound (row ∷ rows) (suc at) node h within is = EachBelow-at bound rows at node h.1 (omega arith) is

-- a node of a tree has a rule number below the bound of the tree
pub rule_below : (bound : ℕ) (rows : List TreeNode) (trees : Trees) → IsOneTree (map row_of rows) → trees_of (map row_of rows) ≡ trees → RulesBelow bound trees
    → (at : ℕ) (node : TreeNode) → at < length rows → node ≡ get_or rows at node → node.rule < bound
rule_below bound rows trees one same below at node within is =
    EachBelow-at bound rows at node
    (subst (EachBelow bound) (IsForest-from_one_tree (map row_of rows) one) (EachBelow-rows_of bound (trees_of (map row_of rows)) (subst (RulesBelow bound) (sym same) below)))
    within is
