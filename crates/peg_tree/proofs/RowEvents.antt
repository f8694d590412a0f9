-- The serializer events of a list with an item for each node of a tree.
use Rattle.std.proofs.Common.{◌≡◌, ℕ, suc, ◌+◌, ◌<◌, List, [], ◌∷◌, ◌++◌, length, drop, get_or, map, reverse, refl, sym, subst, ◌∙◌, ap}
use Rattle.std.proofs.lemmas.List.{length-reverse, reverse-append}
use Rattle.serde.specs.Event.{Log}
use Rattle.serde_json.specs.Data.{Data}
use Rattle.serde_json.specs.Events.{SendsItems, SendsValue}
use Rattle.serde_json.specs.View.{items_of}
use Rattle.peg_tree.specs.declared.row.TreeNode.{TreeNode}
use Rattle.peg_tree.specs.Levels.{levels_of_rows, open_at}
use Rattle.peg_tree.specs.Rows.{Row, row_of, rows_of, IsOneTree}
use Rattle.peg_tree.specs.Trees.{Trees}
use Rattle.peg_tree.specs.TreesOfRows.{trees_of}
use Rattle.peg_tree.proofs.Forests.{IsForest-from_one_tree, rows_from}
use Rattle.peg_tree.proofs.ItemRows.{items_of_trees, items_with_levels, items_with_levels-rows_of}
use Rattle.peg_tree.proofs.LevelRows.{levels_of_rows-rows_of}

module _ (item : ℕ → Row → Data) where
  -- the nodes from number `number` on; `ends` are the ends of the open nodes, innermost first
  abbrev pub rows_below : List ℕ → ℕ → List Row → List Data
  rows_below ends number [] = []
  rows_below ends number (row ∷ rows) =
      item (1 + length (open_at number ends)) row
      ∷ rows_below ((number + row.size) ∷ open_at number ends) (number + 1) rows

  pub rows_below-levels : (ends : List ℕ) (number : ℕ) (rows : List Row)
      → rows_below ends number rows ≡ items_with_levels item (levels_of_rows ends number rows) rows
  rows_below-levels ends number [] = refl
  rows_below-levels ends number (row ∷ rows) =
      ap (λ (l : List Data). item (1 + length (open_at number ends)) row ∷ l)
      (rows_below-levels ((number + row.size) ∷ open_at number ends) (number + 1) rows)

  -- there is one list item for each node
  pub length-rows_below : (ends : List ℕ) (number : ℕ) (rows : List Row) → length (rows_below ends number rows) ≡ length rows
  length-rows_below ends number [] = refl
  length-rows_below ends number (row ∷ rows) =
      ap suc (length-rows_below ((number + row.size) ∷ open_at number ends) (number + 1) rows)

  -- without open nodes, the items are those of the tree
  pub rows_below-all : (rows : List TreeNode) (tree : Trees) → IsOneTree (map row_of rows) → trees_of (map row_of rows) ≡ tree
      → rows_below [] 0 (map row_of rows) ≡ items_of_trees item 1 tree
  rows_below-all rows tree one same =
      ap (rows_below [] 0) (sym (IsForest-from_one_tree (map row_of rows) one))
      ∙ rows_below-levels [] 0 (rows_of (trees_of (map row_of rows)))
      ∙ ap (λ l. items_with_levels item l (rows_of (trees_of (map row_of rows)))) (levels_of_rows-rows_of (trees_of (map row_of rows)))
      ∙ items_with_levels-rows_of item (trees_of (map row_of rows))
      ∙ ap (items_of_trees item 1) same

  -- the items of the nodes from `at` on
  abbrev pub rest_of : List TreeNode → (at : ℕ) → (ends : List ℕ) → List Data
  rest_of rows at ends = rows_below (reverse ends) at (map row_of (drop at rows))

  -- one more node is serialized
  pub row-sent : (rows : List TreeNode) (at : ℕ) (node : TreeNode) → at < length rows → node ≡ get_or rows at node
      → (ends kept more : List ℕ) → reverse kept ≡ open_at at (reverse ends) → more ≡ kept ++ (at + node.size) ∷ []
      → (count : ℕ) → count ≡ length kept → (old mid last : Log)
      → SendsValue (item (1 + count) (row_of node)) old mid
      → SendsItems (items_of (rest_of rows (at + 1) more)) mid last
      → SendsItems (items_of (rest_of rows at ends)) old last
  row-sent rows at node within is ends kept more closed pushed count counted old mid last sent rest =
      let following = map row_of (drop (at + 1) rows) in
      let still = open_at at (reverse ends) in
      let inner : reverse more ≡ (at + node.size) ∷ still =
      ap reverse pushed ∙ reverse-append kept ((at + node.size) ∷ []) ∙ ap (λ l. (at + node.size) ∷ l) closed in
      let level : count ≡ length still = counted ∙ sym (length-reverse kept) ∙ ap length closed in
      let first : rest_of rows at ends
      ≡ item (1 + count) (row_of node) ∷ rest_of rows (at + 1) more =
      ap (rows_below (reverse ends) at) (rows_from rows at node within is)
      ∙ ap (λ n. item (1 + n) (row_of node)
      ∷ rows_below ((at + node.size) ∷ still) (at + 1) following) (sym level)
      ∙ ap (λ l. item (1 + count) (row_of node) ∷ rows_below l (at + 1) following) (sym inner) in
      subst (λ l. SendsItems (items_of l) old last) (sym first) (mid, sent, rest)
