-- The JSON of a tree's node list in which each node without children has its text.
use Rattle.std.proofs.Common.{◌≡◌, ℕ, ◌+◌, List, ◌∷◌, ◌++◌, refl, ◌∙◌, ap, arith}
use Rattle.std.proofs.lemmas.Bool.{cond-false, ne_eqb}
use Rattle.serde_json.specs.Data.{Data}
use Rattle.peg_tree.specs.Names.{name_at}
use Rattle.peg_tree.specs.TextJson.{bytes_between, rows_text_data, text_row_data}
use Rattle.peg_tree.specs.TextSending.{text_row}
use Rattle.peg_tree.specs.Trees.{Trees, NoTrees, Tree, nodes}
use Rattle.peg_tree.proofs.ItemRows.{items_of_trees}

module _ (names : List (List ℕ)) (text : List ℕ) where
  -- a node has no children if and only if its subtree is the node alone
  text_row-node : (level rule start end : ℕ) (children : Trees)
      → text_row names text level (record { rule = rule; start = start; end = end; size = 1 + nodes children })
      ≡ text_row_data level (name_at names rule) start end (bytes_between text start end) children
  text_row-node level rule start end NoTrees = refl
  text_row-node level rule start end (Tree first from to below rest) =
      cond-false _ _ _ (ne_eqb (1 + nodes (Tree first from to below rest)) 1 (omega arith))

  -- the items of trees are their node list
  pub items_of_trees-text : (level : ℕ) (trees : Trees)
      → items_of_trees (text_row names text) level trees ≡ rows_text_data names text level trees
  items_of_trees-text level NoTrees = refl
  items_of_trees-text level (Tree rule start end children rest) =
      let node = text_row_data level (name_at names rule) start end (bytes_between text start end) children in
      let beside = items_of_trees (text_row names text) level rest in
      ap (λ (first : Data). first ∷ (items_of_trees (text_row names text) (1 + level) children ++ beside))
      (text_row-node level rule start end children)
      ∙ ap (λ l. node ∷ (l ++ beside)) (items_of_trees-text (1 + level) children)
      ∙ ap (λ l. node ∷ (rows_text_data names text (1 + level) children ++ l)) (items_of_trees-text level rest)
