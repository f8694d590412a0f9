-- The shown nodes of the node list of trees are the node list of the selected trees.
use Rattle.std.proofs.Common.{◌≡◌, Bool, true, false, ℕ, suc, ◌+◌, ◌-◌, drop, slice_index_or, List, [], ◌∷◌, ◌++◌, length, map, get_or, take, ◌<◌, ◌≤◌, if◌then◌else◌, refl, sym, ◌∙◌, ap, arith, append_assoc, append-nil}
use Rattle.std.proofs.Math.Seq.{take-add, take-append_seam, take-length}
use Rattle.std.proofs.lemmas.List.{get_or_read_under, map-append, take-map, take_more}
use Rattle.peg_tree.specs.declared.row.TreeNode.{TreeNode}
use Rattle.std.proofs.lemmas.Bool.{cond-true}
use Rattle.peg_tree.specs.Trees.{Trees, NoTrees, Tree, nodes, followed_by}
use Rattle.peg_tree.specs.Rows.{Row, row_of, rows_of, IsOneTree}
use Rattle.peg_tree.specs.TreesCode.{trees_of-rows_of}
use Rattle.peg_tree.specs.TreesOfRows.{trees_of}
use Rattle.peg_tree.specs.Selected.{selected_among, selected}
use Rattle.peg_tree.specs.SelectedNodes.{AreShownCounts, shown_count, shown_nodes}
use Rattle.peg_tree.proofs.Forests.{length-rows_of, rows_from, rows_of-followed_by}

-- the number of nodes of trees followed by others
nodes-followed_by : (trees more : Trees) → nodes (followed_by trees more) ≡ nodes trees + nodes more
nodes-followed_by NoTrees more = omega arith
nodes-followed_by (Tree rule start end children rest) more = omega (arith, nodes-followed_by rest more)

module _ (shown : ℕ → Bool) where
  shown_count-append : (xs ys : List Row) → shown_count shown (xs ++ ys) ≡ shown_count shown xs + shown_count shown ys
  shown_count-append [] ys = omega arith
  shown_count-append (row ∷ rows) ys = by (shown row.rule) (shown_count-append rows ys)
    where
      by : (b : Bool) → shown_count shown (rows ++ ys) ≡ shown_count shown rows + shown_count shown ys
          → (if b then 1 + shown_count shown (rows ++ ys) else shown_count shown (rows ++ ys))
          ≡ (if b then 1 + shown_count shown rows else shown_count shown rows) + shown_count shown ys
      by true same = omega (arith, same)
      by false same = same

  -- the number of shown nodes is that of the selected trees
  pub shown_count-rows_of : (trees : Trees) → shown_count shown (rows_of trees) ≡ nodes (selected_among shown trees)
  shown_count-rows_of NoTrees = refl
  shown_count-rows_of (Tree rule start end children rest) =
      by (shown rule) (shown_count-append (rows_of children) (rows_of rest)) (shown_count-rows_of children) (shown_count-rows_of rest)
    where
      below : Trees
      below = selected_among shown children

      after : Trees
      after = selected_among shown rest

      all : ℕ
      all = shown_count shown (rows_of children ++ rows_of rest)

      by : (b : Bool) → all ≡ shown_count shown (rows_of children) + shown_count shown (rows_of rest)
          → shown_count shown (rows_of children) ≡ nodes below → shown_count shown (rows_of rest) ≡ nodes after
          → (if b then 1 + all else all) ≡ nodes (if b then Tree rule start end below after else followed_by below after)
      by true whole first second = omega (arith, whole, first, second)
      by false whole first second = omega (arith, whole, first, second, nodes-followed_by below after)

  -- the shown nodes of trees and of the nodes after them
  pub shown_nodes-append : (trees : Trees) (more : List Row)
      → shown_nodes shown (rows_of trees ++ more) ≡ rows_of (selected_among shown trees) ++ shown_nodes shown more
  shown_nodes-append NoTrees more = refl
  shown_nodes-append (Tree rule start end children rest) more =
      let below = selected_among shown children in
      let after = selected_among shown rest in
      let row : Row = record { rule = rule; start = start; end = end; size = 1 + nodes children } in
      let others = (rows_of children ++ rows_of rest) ++ more in
      let lists : shown_nodes shown others ≡ rows_of below ++ (rows_of after ++ shown_nodes shown more) =
      ap (shown_nodes shown) (append_assoc (rows_of children) (rows_of rest) more)
      ∙ shown_nodes-append children (rows_of rest ++ more)
      ∙ ap (λ l. rows_of below ++ l) (shown_nodes-append rest more) in
      let count : 1 + nodes children ≡ length (row ∷ rows_of children) = omega (arith, length-rows_of children) in
      let subtree : take (1 + nodes children) (row ∷ others) ≡ row ∷ rows_of children =
      ap (λ n. take n (row ∷ others)) count
      ∙ ap (λ l. take (length (row ∷ rows_of children)) (row ∷ l)) (append_assoc (rows_of children) (rows_of rest) more)
      ∙ take-append_seam (row ∷ rows_of children) (rows_of rest ++ more) in
      by (shown rule) row below after others
      (λ is. ap (shown_count shown) subtree
      ∙ ap (λ b. if b then 1 + shown_count shown (rows_of children) else shown_count shown (rows_of children)) is
      ∙ ap (λ n. 1 + n) (shown_count-rows_of children)) lists
    where
      by : (b : Bool) (row : Row) (below after : Trees) (others : List Row)
          → (b ≡ true → shown_count shown (take row.size (row ∷ others)) ≡ 1 + nodes below)
          → shown_nodes shown others ≡ rows_of below ++ (rows_of after ++ shown_nodes shown more)
          → (if b then record row { size = shown_count shown (take row.size (row ∷ others)) } ∷ shown_nodes shown others else shown_nodes shown others)
          ≡ rows_of (if b then Tree row.rule row.start row.end below after else followed_by below after) ++ shown_nodes shown more
      by true row below after others size lists =
          ap (λ n. record row { size = n } ∷ shown_nodes shown others) (size refl)
          ∙ ap (λ l. record row { size = 1 + nodes below } ∷ l)
          (lists ∙ sym (append_assoc (rows_of below) (rows_of after) (shown_nodes shown more)))
      by false row below after others size lists =
          lists ∙ sym (append_assoc (rows_of below) (rows_of after) (shown_nodes shown more))
          ∙ ap (λ l. l ++ shown_nodes shown more) (sym (rows_of-followed_by below after))

  -- the shown nodes of trees
  pub shown_nodes-rows_of : (trees : Trees) → shown_nodes shown (rows_of trees) ≡ rows_of (selected_among shown trees)
  shown_nodes-rows_of trees =
      ap (shown_nodes shown) (sym (append-nil (rows_of trees)))
      ∙ shown_nodes-append trees []
      ∙ append-nil (rows_of (selected_among shown trees))

  -- the number of shown nodes is at most that of all
  pub shown_count-le : (rows : List Row) → shown_count shown rows ≤ length rows
  shown_count-le [] = omega arith
  shown_count-le (row ∷ rows) = by (shown row.rule) (shown_count-le rows)
    where
      by : (b : Bool) → shown_count shown rows ≤ length rows
          → (if b then 1 + shown_count shown rows else shown_count shown rows) ≤ suc (length rows)
      by true less = omega (arith, less)
      by false less = omega (arith, less)

  -- one node more
  pub shown_count-more : (rows : List TreeNode) (at : ℕ) (node : TreeNode) → at < length rows → node ≡ get_or rows at node
      → shown_count shown (map row_of (take (at + 1) rows))
      ≡ shown_count shown (map row_of (take at rows)) + shown_count shown (row_of node ∷ [])
  shown_count-more rows at node within is =
      ap (λ l. shown_count shown (map row_of l)) (take_more rows at node within ∙ ap (λ n. take at rows ++ n ∷ []) (sym is))
      ∙ ap (shown_count shown) (map-append row_of (take at rows) (node ∷ []))
      ∙ shown_count-append (map row_of (take at rows)) (row_of node ∷ [])

  -- the counts at the ends of a subtree differ by the number of shown nodes in it
  pub shown_size : (nodes : List TreeNode) (counts : List ℕ) (at size : ℕ) → AreShownCounts shown nodes counts
      → at + size ≤ length nodes
      → slice_index_or counts (at + size) 0
      ≡ slice_index_or counts at 0 + shown_count shown (take size (map row_of (drop at nodes)))
  shown_size nodes counts at size are within =
      are.each (at + size) within
      ∙ ap (λ l. shown_count shown (map row_of l)) (take-add at size nodes)
      ∙ ap (shown_count shown) (map-append row_of (take at nodes) (take size (drop at nodes)))
      ∙ shown_count-append (map row_of (take at nodes)) (map row_of (take size (drop at nodes)))
      ∙ ap (λ n. n + shown_count shown (map row_of (take size (drop at nodes)))) (sym (are.each at (omega (arith, within))))
      ∙ ap (λ l. slice_index_or counts at 0 + shown_count shown l) (sym (take-map row_of size (drop at nodes)))

  -- a shown node with its new size comes before the other shown nodes
  pub shown_nodes-shown : (row : Row) (rows : List Row) → shown row.rule ≡ true
      → shown_nodes shown (row ∷ rows)
      ≡ record row { size = shown_count shown (take row.size (row ∷ rows)) } ∷ shown_nodes shown rows
  shown_nodes-shown row rows is = cond-true (shown row.rule) _ _ is

  -- one node is added to the shown nodes so far
  pub shown_nodes-added : (below : List TreeNode) (counts : List ℕ) (at : ℕ) (node : TreeNode) (old new : List TreeNode)
      (added : TreeNode) → at < length below → node ≡ get_or below at node → at + node.size ≤ length below
      → AreShownCounts shown below counts → shown node.rule ≡ true
      → row_of added ≡ record (row_of node) {
        size = slice_index_or counts (at + node.size) 0 - slice_index_or counts at 0;
      }
      → new ≡ old ++ added ∷ []
      → map row_of new ++ shown_nodes shown (map row_of (drop (at + 1) below))
      ≡ map row_of old ++ shown_nodes shown (map row_of (drop at below))
  shown_nodes-added below counts at node old new added within is fits are shows row items =
      let rest = map row_of (drop (at + 1) below) in
      let here : map row_of (drop at below) ≡ row_of node ∷ rest = rows_from below at node within is in
      let count = shown_count shown (take node.size (row_of node ∷ rest)) in
      let size : slice_index_or counts (at + node.size) 0 - slice_index_or counts at 0 ≡ count =
      omega (arith, shown_size below counts at node.size are fits, ap (λ l. shown_count shown (take node.size l)) here) in
      ap (λ l. map row_of l ++ shown_nodes shown rest) items
      ∙ ap (λ l. l ++ shown_nodes shown rest) (map-append row_of old (added ∷ []))
      ∙ append_assoc (map row_of old) (row_of added ∷ []) (shown_nodes shown rest)
      ∙ ap (λ r. map row_of old ++ r ∷ shown_nodes shown rest) (row ∙ ap (λ n. record (row_of node) { size = n }) size)
      ∙ ap (λ l. map row_of old ++ l) (sym (shown_nodes-shown (row_of node) rest shows) ∙ ap (shown_nodes shown) (sym here))

  -- the root with its new size and the shown nodes below it are the nodes of the selected tree
  pub selected_nodes : (rows : List TreeNode) (root : TreeNode) (size : ℕ) → IsOneTree (map row_of rows)
      → root ≡ get_or rows 0 root → size ≡ 1 + shown_count shown (map row_of (drop 1 rows))
      → record (row_of root) { size = size } ∷ shown_nodes shown (map row_of (drop 1 rows))
      ≡ rows_of (selected shown (trees_of (map row_of rows)))
  selected_nodes [] root size tree is counted = absurd (no_nodes tree.spelled)
    where
      no_nodes : {row : Row} {rest : List Row} → [] ≡ row ∷ rest → ⊥
      no_nodes is = cc
  selected_nodes (first ∷ rest) root size tree is counted =
      let below = tree.children in
      let head : row_of first ≡ record { rule = tree.rule; start = tree.start; end = tree.end; size = 1 + nodes below } =
      ap (λ l. get_or l 0 (row_of first)) tree.spelled in
      let tail : map row_of rest ≡ rows_of below = ap (drop 1) tree.spelled ∙ append-nil (rows_of below) in
      let among = selected_among shown below in
      let count : size ≡ 1 + nodes among =
      counted ∙ ap (λ l. 1 + shown_count shown l) tail ∙ ap (λ n. 1 + n) (shown_count-rows_of below) in
      ap (λ (node : TreeNode). record (row_of node) { size = size } ∷ shown_nodes shown (map row_of rest)) is
      ∙ ap (λ (row : Row). record row { size = size } ∷ shown_nodes shown (map row_of rest)) head
      ∙ ap (λ n. record { rule = tree.rule; start = tree.start; end = tree.end; size = n } ∷ shown_nodes shown (map row_of rest)) count
      ∙ ap (λ l. record { rule = tree.rule; start = tree.start; end = tree.end; size = 1 + nodes among } ∷ l)
      (ap (shown_nodes shown) tail ∙ shown_nodes-rows_of below ∙ sym (append-nil (rows_of among)))
      ∙ sym (ap (λ l. rows_of (selected shown (trees_of l))) tree.spelled
      ∙ ap (λ t. rows_of (selected shown t)) (trees_of-rows_of (Tree tree.rule tree.start tree.end below NoTrees)))

  -- the last count is that of all nodes
  pub shown_total : (nodes : List TreeNode) (counts : List ℕ) (last : ℕ) → AreShownCounts shown nodes counts
      → last ≡ slice_index_or counts (length nodes) last → last ≡ shown_count shown (map row_of nodes)
  shown_total nodes counts last are is =
      get_or_read_under counts (length nodes) (length counts) last 0 is (omega (arith, are.count)) refl
      ∙ are.each (length nodes) (omega arith)
      ∙ ap (λ l. shown_count shown (map row_of l)) (take-length nodes)

  -- the nodes of the selected tree are one tree
  pub IsOneTree-selected : (rows selection : List Row) → IsOneTree rows
      → selection ≡ rows_of (selected shown (trees_of rows)) → IsOneTree selection
  IsOneTree-selected rows selection tree is = record {
    rule = tree.rule;
    start = tree.start;
    end = tree.end;
    children = selected_among shown tree.children;
    spelled = is ∙ ap (λ l. rows_of (selected shown (trees_of l))) tree.spelled
        ∙ ap (λ t. rows_of (selected shown t)) (trees_of-rows_of (Tree tree.rule tree.start tree.end tree.children NoTrees));
  }
