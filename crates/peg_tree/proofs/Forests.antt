-- Node lists that are adjacent trees.
use Rattle.std.proofs.Common.{Option, Some, slice_get, unwrap_or, ◌≡◌, Bool, true, false, ℕ, zero, suc, ◌+◌, ◌-◌, ◌<◌, ◌≤◌, List, [], ◌∷◌, ◌++◌, nat_le, if◌then◌else◌, length, drop, get_or, map, refl, sym, ◌∙◌, ap, subst, arith, append_assoc}
use Rattle.std.proofs.lemmas.Bool.{cond-true, cond-false, le-leb, lt-leb}
use Rattle.std.proofs.lemmas.List.{length-append, length-drop, length-map, drop_at, drop_more, drop-drop}
use Rattle.peg_tree.specs.declared.row.TreeNode.{TreeNode}
use Rattle.peg_tree.specs.Trees.{Trees, NoTrees, Tree, nodes, followed_by}
use Rattle.peg_tree.specs.Rows.{Row, row_of, rows_of, IsOneTree}
use Rattle.peg_tree.specs.TreesOfRows.{first_trees, trees_after, trees_of, IsForest}
use Rattle.peg_tree.specs.TreesCode.{trees_of-rows_of, first_trees-none}

-- the node list has one entry for each node
pub length-rows_of : (trees : Trees) → length (rows_of trees) ≡ nodes trees
length-rows_of NoTrees = refl
length-rows_of (Tree rule start end children rest) =
    omega (arith, length-append (rows_of children) (rows_of rest), length-rows_of children, length-rows_of rest)

-- the node list of trees followed by other trees
pub rows_of-followed_by : (trees more : Trees) → rows_of (followed_by trees more) ≡ rows_of trees ++ rows_of more
rows_of-followed_by NoTrees more = refl
rows_of-followed_by (Tree rule start end children rest) more =
    ap (λ rows. record { rule = rule; start = start; end = end; size = 1 + nodes children } ∷ rows)
    (ap (λ rows. rows_of children ++ rows) (rows_of-followed_by rest more) ∙ sym (append_assoc (rows_of children) (rows_of rest) (rows_of more)))

-- the node list of trees is a forest
pub IsForest-rows_of : (trees : Trees) → IsForest (rows_of trees)
IsForest-rows_of trees = ap rows_of (trees_of-rows_of trees)

-- a forest without its first entry is a forest
pub IsForest-tail : (row : Row) (rows : List Row) → IsForest (row ∷ rows) → IsForest rows
IsForest-tail row rows forest =
    let children = first_trees (row.size - 1) (trees_of rows) in
    let rest = trees_after (row.size - 1) (trees_of rows) in
    let tail : rows_of children ++ rows_of rest ≡ rows = ap (drop 1) forest in
    subst IsForest (rows_of-followed_by children rest ∙ tail) (IsForest-rows_of (followed_by children rest))

-- a forest without its first n entries is a forest
pub IsForest-drop : (n : ℕ) (rows : List Row) → IsForest rows → IsForest (drop n rows)
IsForest-drop zero rows forest = forest
IsForest-drop (suc n) [] forest = refl
IsForest-drop (suc n) (row ∷ rows) forest = IsForest-drop n rows (IsForest-tail row rows forest)

-- the size in the first entry
abbrev pub row_size : List Row → ℕ
row_size [] = 0
row_size (row ∷ rows) = row.size

-- the size in the first entry of a forest is the number of nodes of its first tree
pub IsForest-size : (row : Row) (rows : List Row) → IsForest (row ∷ rows) → 1 + nodes (first_trees (row.size - 1) (trees_of rows)) ≡ row.size
IsForest-size row rows forest = ap row_size forest

-- an entry before a forest makes a forest if its size covers whole trees
pub first_and_after : (count : ℕ) (trees : Trees) → followed_by (first_trees count trees) (trees_after count trees) ≡ trees
first_and_after count NoTrees = refl
first_and_after count (Tree rule start end children rest) =
    by (nat_le (1 + nodes children) count) (first_and_after (count - (1 + nodes children)) rest)
  where
    by : (b : Bool) → followed_by (first_trees (count - (1 + nodes children)) rest) (trees_after (count - (1 + nodes children)) rest) ≡ rest
        → followed_by (if b then Tree rule start end children (first_trees (count - (1 + nodes children)) rest) else NoTrees)
        (if b then trees_after (count - (1 + nodes children)) rest else Tree rule start end children rest) ≡ Tree rule start end children rest
    by true h = ap (Tree rule start end children) h
    by false h = refl

pub IsForest-cons : (row : Row) (rows : List Row) → IsForest rows → 0 < row.size
    → nodes (first_trees (row.size - 1) (trees_of rows)) ≡ row.size - 1 → IsForest (row ∷ rows)
IsForest-cons row rows forest some whole =
    let children = first_trees (row.size - 1) (trees_of rows) in
    let rest = trees_after (row.size - 1) (trees_of rows) in
    let size : 1 + nodes children ≡ row.size = omega arith in
    let below : rows_of children ++ rows_of rest ≡ rows =
    sym (rows_of-followed_by children rest) ∙ ap rows_of (first_and_after (row.size - 1) (trees_of rows)) ∙ forest in
    ap (λ n. record { rule = row.rule; start = row.start; end = row.end; size = n } ∷ (rows_of children ++ rows_of rest)) size
    ∙ ap (λ rows. row ∷ rows) below

-- the node list after the first tree of a forest
pub after_tree : (row : Row) (rows : List Row) → IsForest (row ∷ rows)
    → drop row.size (row ∷ rows) ≡ rows_of (trees_after (row.size - 1) (trees_of rows))
after_tree row rows forest =
    let children = first_trees (row.size - 1) (trees_of rows) in
    let rest = trees_after (row.size - 1) (trees_of rows) in
    let tail : rows_of children ++ rows_of rest ≡ rows = ap (drop 1) forest in
    ap (λ n. drop n (row ∷ rows)) (sym (IsForest-size row rows forest))
    ∙ ap (λ l. drop (1 + nodes children) (row ∷ l)) (sym tail)
    ∙ drop_at (record { rule = row.rule; start = row.start; end = row.end; size = row.size } ∷ rows_of children) (rows_of rest) (1 + nodes children) (omega (arith, length-rows_of children))

-- the trees after the first tree of a forest
pub trees_of-after_tree : (row : Row) (rows : List Row) → IsForest (row ∷ rows)
    → trees_of (drop row.size (row ∷ rows)) ≡ trees_after (row.size - 1) (trees_of rows)
trees_of-after_tree row rows forest =
    ap trees_of (after_tree row rows forest) ∙ trees_of-rows_of (trees_after (row.size - 1) (trees_of rows))

-- the nodes of leading trees, if the first tree fits
pub nodes-first_trees-more : (row : Row) (rows : List Row) (count : ℕ) → IsForest (row ∷ rows) → row.size ≤ count
    → nodes (first_trees count (trees_of (row ∷ rows))) ≡ row.size + nodes (first_trees (count - row.size) (trees_of (drop row.size (row ∷ rows))))
nodes-first_trees-more row rows count forest fits =
    let children = first_trees (row.size - 1) (trees_of rows) in
    let rest = trees_after (row.size - 1) (trees_of rows) in
    let size = IsForest-size row rows forest in
    ap nodes (cond-true (nat_le (1 + nodes children) count) _ _ (le-leb (1 + nodes children) count (omega arith)))
    ∙ ap (λ n. n + nodes (first_trees (count - n) rest)) size
    ∙ ap (λ trees. row.size + nodes (first_trees (count - row.size) trees)) (sym (trees_of-after_tree row rows forest))

-- if the first tree does not fit, no tree does
pub nodes-first_trees-past : (row : Row) (rows : List Row) (count : ℕ) → IsForest (row ∷ rows) → count < row.size
    → nodes (first_trees count (trees_of (row ∷ rows))) ≡ 0
nodes-first_trees-past row rows count forest past =
    let children = first_trees (row.size - 1) (trees_of rows) in
    let size = IsForest-size row rows forest in
    ap nodes (cond-false (nat_le (1 + nodes children) count) _ _ (lt-leb (1 + nodes children) count (omega arith)))

pub nodes-first_trees-none : (trees : Trees) → nodes (first_trees 0 trees) ≡ 0
nodes-first_trees-none trees = ap nodes (first_trees-none trees)

pub map-drop : {X Y : Type 0} (f : X → Y) (n : ℕ) (xs : List X) → map f (drop n xs) ≡ drop n (map f xs)
map-drop f zero xs = refl
map-drop f (suc n) [] = refl
map-drop f (suc n) (x ∷ xs) = map-drop f n xs

-- a forest has one node for each entry
pub nodes-trees_of : (rows : List Row) → IsForest rows → nodes (trees_of rows) ≡ length rows
nodes-trees_of rows forest = sym (length-rows_of (trees_of rows)) ∙ ap length forest

-- a tree of a forest, whose root is entry number `at`
module _ (rows : List TreeNode) (at : ℕ) (node : TreeNode) (within : at < length rows) (is : node ≡ get_or rows at node) where
  pub rows_from : map row_of (drop at rows) ≡ row_of node ∷ map row_of (drop (at + 1) rows)
  rows_from = ap (map row_of) (drop_more rows at node within) ∙ ap (λ n. row_of n ∷ map row_of (drop (at + 1) rows)) (sym is)

  -- one entry less
  pub forest_from_next : IsForest (map row_of (drop at rows)) → IsForest (map row_of (drop (at + 1) rows))
  forest_from_next forest = IsForest-tail (row_of node) (map row_of (drop (at + 1) rows)) (subst IsForest rows_from forest)

  -- one entry more
  pub forest_from_here : IsForest (map row_of (drop (at + 1) rows)) → 0 < node.size
      → nodes (first_trees (node.size - 1) (trees_of (map row_of (drop (at + 1) rows)))) ≡ node.size - 1
      → IsForest (map row_of (drop at rows))
  forest_from_here forest some whole =
      subst IsForest (sym rows_from) (IsForest-cons (row_of node) (map row_of (drop (at + 1) rows)) forest some whole)

  module _ (forest : IsForest (map row_of (drop at rows))) where
    opened : IsForest (row_of node ∷ map row_of (drop (at + 1) rows))
    opened = subst IsForest rows_from forest

    -- the size in the entry counts the whole trees that it covers
    pub size_counts : (0 < node.size) × (nodes (first_trees (node.size - 1) (trees_of (map row_of (drop (at + 1) rows)))) ≡ node.size - 1)
    size_counts = let size = IsForest-size (row_of node) (map row_of (drop (at + 1) rows)) opened in (omega arith, omega arith)

    -- the tree ends within the list
    pub tree_within : at + node.size ≤ length rows
    tree_within =
        let size = IsForest-size (row_of node) (map row_of (drop (at + 1) rows)) opened in
        let all = nodes-trees_of (row_of node ∷ map row_of (drop (at + 1) rows)) opened in
        omega (arith, length-map (drop (at + 1) rows) row_of, length-drop (at + 1) rows)

    past : drop node.size (row_of node ∷ map row_of (drop (at + 1) rows)) ≡ map row_of (drop (at + node.size) rows)
    past = ap (drop node.size) (sym rows_from) ∙ sym (map-drop row_of node.size (drop at rows)) ∙ ap (map row_of) (drop-drop node.size at rows)

    -- the entries after the tree are a forest
    pub forest_after : IsForest (map row_of (drop (at + node.size) rows))
    forest_after =
        subst IsForest (sym (after_tree (row_of node) (map row_of (drop (at + 1) rows)) opened) ∙ past)
        (IsForest-rows_of (trees_after (node.size - 1) (trees_of (map row_of (drop (at + 1) rows)))))

    -- the nodes of leading trees, if this tree fits
    pub counted_after : (count : ℕ) → node.size ≤ count
        → nodes (first_trees count (trees_of (map row_of (drop at rows)))) ≡ node.size + nodes (first_trees (count - node.size) (trees_of (map row_of (drop (at + node.size) rows))))
    counted_after count fits =
        ap (λ l. nodes (first_trees count (trees_of l))) rows_from
        ∙ nodes-first_trees-more (row_of node) (map row_of (drop (at + 1) rows)) count opened fits
        ∙ ap (λ l. node.size + nodes (first_trees (count - node.size) (trees_of l))) past

    -- this tree does not fit
    pub counted_past : (count : ℕ) → count < node.size → nodes (first_trees count (trees_of (map row_of (drop at rows)))) ≡ 0
    counted_past count less =
        ap (λ l. nodes (first_trees count (trees_of l))) rows_from
        ∙ nodes-first_trees-past (row_of node) (map row_of (drop (at + 1) rows)) count opened less

-- trees without nodes are empty
pub no_nodes : (trees : Trees) → nodes trees ≡ 0 → trees ≡ NoTrees
no_nodes NoTrees e = refl
no_nodes (Tree rule start end children rest) e = absurd (omega arith)

-- a forest whose first tree covers all entries is one tree
pub IsOneTree-from_forest : (rows : List Row) → IsForest rows → 0 < length rows → row_size rows ≡ length rows → IsOneTree rows
IsOneTree-from_forest [] forest some whole = absurd (omega arith)
IsOneTree-from_forest (row ∷ rows) forest some whole =
    let children = first_trees (row.size - 1) (trees_of rows) in
    let rest = trees_after (row.size - 1) (trees_of rows) in
    let size = IsForest-size row rows forest in
    let all = nodes-trees_of (row ∷ rows) forest in
    let none : rest ≡ NoTrees = no_nodes rest (omega arith) in
    record {
      rule = row.rule;
      start = row.start;
      end = row.end;
      children = children;
      spelled = sym forest ∙ ap (λ trees. rows_of (Tree row.rule row.start row.end children trees)) none;
    }

-- one tree is a forest whose first tree covers all entries
pub IsForest-from_one_tree : (rows : List Row) → IsOneTree rows → IsForest rows
IsForest-from_one_tree rows one = subst IsForest (sym one.spelled) (IsForest-rows_of (Tree one.rule one.start one.end one.children NoTrees))

pub size_of_one_tree : (rows : List Row) → IsOneTree rows → row_size rows ≡ length rows
size_of_one_tree rows one =
    let tree = Tree one.rule one.start one.end one.children NoTrees in
    let count = length-rows_of tree in
    ap row_size one.spelled ∙ (let h : 1 + nodes one.children ≡ length (rows_of tree) = omega arith in h) ∙ sym (ap length one.spelled)

-- the same for nodes whose first is known
module _ (rows : List TreeNode) (root : TreeNode) (first : Some root ≡ slice_get rows 0) where
  some_row : (rows : List TreeNode) → Some root ≡ slice_get rows 0 → 0 < length rows
  some_row [] e = cc
  some_row (row ∷ rows) e = omega arith

  first_size : row_size (map row_of rows) ≡ root.size
  first_size = by rows first
    where
      by : (rows : List TreeNode) → Some root ≡ slice_get rows 0 → row_size (map row_of rows) ≡ root.size
      by [] e = cc
      by (row ∷ rows) e = ap (λ (o : Option TreeNode). (unwrap_or o root).size) (sym e)

  pub one_tree_from_forest : root.size ≡ length rows → IsForest (map row_of rows) → IsOneTree (map row_of rows)
  one_tree_from_forest whole forest = IsOneTree-from_forest (map row_of rows) forest (omega (arith, length-map rows row_of, some_row rows first)) (first_size ∙ whole ∙ sym (length-map rows row_of))

  pub whole_from_one_tree : IsOneTree (map row_of rows) → root.size ≡ length rows
  whole_from_one_tree one = sym first_size ∙ size_of_one_tree (map row_of rows) one ∙ length-map rows row_of

-- an empty list is not a tree
pub not_one_tree : IsOneTree [] → ⊥
not_one_tree one =
    let count : 0 ≡ length (rows_of (Tree one.rule one.start one.end one.children NoTrees)) = ap length one.spelled in
    omega (arith, length-rows_of (Tree one.rule one.start one.end one.children NoTrees))

pub drop_forest : (rows : List TreeNode) (n : ℕ) → IsForest (map row_of rows) → IsForest (map row_of (drop n rows))
drop_forest rows n forest = subst IsForest (sym (map-drop row_of n rows)) (IsForest-drop n (map row_of rows) forest)
