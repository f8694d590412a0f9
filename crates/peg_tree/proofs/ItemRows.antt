-- Lists with an item for each node, made of the node and its level.
use Rattle.std.proofs.Common.{◌≡◌, ℕ, ◌+◌, List, [], ◌∷◌, ◌++◌, refl, sym, ◌∙◌, ap, append_assoc, append-nil}
use Rattle.serde_json.specs.Data.{Data}
use Rattle.peg_tree.specs.Levels.{levels_of}
use Rattle.peg_tree.specs.Rows.{Row, rows_of}
use Rattle.peg_tree.specs.Trees.{Trees, NoTrees, Tree, nodes}

module _ (item : ℕ → Row → Data) where
  -- the items of trees whose roots have the given level
  abbrev pub items_of_trees : ℕ → Trees → List Data
  items_of_trees level NoTrees = []
  items_of_trees level (Tree rule start end children rest) =
      item level (record { rule = rule; start = start; end = end; size = 1 + nodes children })
      ∷ (items_of_trees (1 + level) children ++ items_of_trees level rest)

  -- the items of nodes with these levels
  abbrev pub items_with_levels : List ℕ → List Row → List Data
  items_with_levels [] rows = []
  items_with_levels (level ∷ levels) [] = []
  items_with_levels (level ∷ levels) (row ∷ rows) = item level row ∷ items_with_levels levels rows

  items_with_levels-append : (level : ℕ) (trees : Trees) (levels : List ℕ) (rows : List Row)
      → items_with_levels (levels_of level trees ++ levels) (rows_of trees ++ rows)
      ≡ items_of_trees level trees ++ items_with_levels levels rows
  items_with_levels-append level NoTrees levels rows = refl
  items_with_levels-append level (Tree rule start end children rest) levels rows =
      ap (λ l. item level (record { rule = rule; start = start; end = end; size = 1 + nodes children }) ∷ l) (
      ap (λ l. items_with_levels l ((rows_of children ++ rows_of rest) ++ rows))
      (append_assoc (levels_of (1 + level) children) (levels_of level rest) levels)
      ∙ ap (items_with_levels (levels_of (1 + level) children ++ (levels_of level rest ++ levels)))
      (append_assoc (rows_of children) (rows_of rest) rows)
      ∙ items_with_levels-append (1 + level) children (levels_of level rest ++ levels) (rows_of rest ++ rows)
      ∙ ap (λ l. items_of_trees (1 + level) children ++ l) (items_with_levels-append level rest levels rows)
      ∙ sym (append_assoc (items_of_trees (1 + level) children) (items_of_trees level rest)
      (items_with_levels levels rows)))

  -- the items of the nodes of trees with their levels
  pub items_with_levels-rows_of : (trees : Trees)
      → items_with_levels (levels_of 1 trees) (rows_of trees) ≡ items_of_trees 1 trees
  items_with_levels-rows_of trees =
      ap (λ l. items_with_levels l (rows_of trees)) (sym (append-nil (levels_of 1 trees)))
      ∙ ap (items_with_levels (levels_of 1 trees ++ [])) (sym (append-nil (rows_of trees)))
      ∙ items_with_levels-append 1 trees [] []
      ∙ append-nil (items_of_trees 1 trees)
