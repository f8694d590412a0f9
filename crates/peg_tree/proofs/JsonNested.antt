-- The stack of nested JSON objects, compared with the trees of these objects.
use Rattle.std.proofs.Common.{◌≡◌, Bool, true, false, ℕ, suc, ◌+◌, ◌-◌, ◌<◌, List, [], ◌∷◌, ◌++◌, nat_le, if◌then◌else◌, length, drop, get_or, map, refl, subst, sym, ◌∙◌, ap, arith}
use Rattle.std.proofs.lemmas.List.{reverse-append}
use Rattle.serde_json.specs.Data.{Data}
use Rattle.serde_json.specs.View.{view}
use Rattle.peg_tree.specs.declared.nested.Built.{Built}
use Rattle.peg_tree.specs.declared.row.TreeNode.{TreeNode}
use Rattle.peg_tree.specs.Built.{SizedObject, object_of, objects_of, objects_of_trees, take_values, left_after}
use Rattle.peg_tree.specs.Json.{node_data, nested_data}
use Rattle.peg_tree.specs.Names.{name_at}
use Rattle.peg_tree.specs.Rows.{Row, row_of, IsOneTree}
use Rattle.peg_tree.specs.Trees.{Trees, NoTrees, Tree, nodes}
use Rattle.peg_tree.specs.TreesOfRows.{trees_of, first_trees, trees_after, IsForest}
use Rattle.peg_tree.specs.TreesCode.{trees_of-rows_of}
use Rattle.peg_tree.proofs.Forests.{IsForest-size, rows_from}

module _ (names : List (List ℕ)) where
  -- the objects that are taken are those of the leading trees
  pub take_values-objects_of_trees : (count : ℕ) (trees : Trees) → take_values count (objects_of_trees names trees) ≡ nested_data names (first_trees count trees)
  take_values-objects_of_trees count NoTrees = refl
  take_values-objects_of_trees count (Tree rule start end children rest) =
      by (nat_le (1 + nodes children) count) (take_values-objects_of_trees (count - (1 + nodes children)) rest)
    where
      by : (b : Bool) → take_values (count - (1 + nodes children)) (objects_of_trees names rest) ≡ nested_data names (first_trees (count - (1 + nodes children)) rest)
          → (if b then node_data (name_at names rule) start end (nested_data names children) ∷ take_values (count - (1 + nodes children)) (objects_of_trees names rest) else [])
          ≡ nested_data names (if b then Tree rule start end children (first_trees (count - (1 + nodes children)) rest) else NoTrees)
      by true h = ap (λ l. node_data (name_at names rule) start end (nested_data names children) ∷ l) h
      by false h = refl

  -- the objects that remain are those of the trees after them
  pub left_after-objects_of_trees : (count : ℕ) (trees : Trees) → left_after count (objects_of_trees names trees) ≡ objects_of_trees names (trees_after count trees)
  left_after-objects_of_trees count NoTrees = refl
  left_after-objects_of_trees count (Tree rule start end children rest) =
      by (nat_le (1 + nodes children) count) (left_after-objects_of_trees (count - (1 + nodes children)) rest)
    where
      by : (b : Bool) → left_after (count - (1 + nodes children)) (objects_of_trees names rest) ≡ objects_of_trees names (trees_after (count - (1 + nodes children)) rest)
          → (if b then left_after (count - (1 + nodes children)) (objects_of_trees names rest) else objects_of_trees names (Tree rule start end children rest))
          ≡ objects_of_trees names (if b then trees_after (count - (1 + nodes children)) rest else Tree rule start end children rest)
      by true h = h
      by false h = refl

  objects_of-push : (stack : List Built) (built : Built) → objects_of (stack ++ built ∷ []) ≡ object_of built ∷ objects_of stack
  objects_of-push stack built = ap (map object_of) (reverse-append stack (built ∷ []))

  -- a node before the finished trees takes those within its size
  pub objects_of-more : (rows : List TreeNode) (at next : ℕ) (node : TreeNode) → next ≡ at + 1 → at < length rows → node ≡ get_or rows at node
      → IsForest (map row_of (drop at rows))
      → (stack left more : List Built) (children : List Data) (built : Built)
      → objects_of stack ≡ objects_of_trees names (trees_of (map row_of (drop next rows)))
      → children ≡ take_values (node.size - 1) (objects_of stack) → objects_of left ≡ left_after (node.size - 1) (objects_of stack)
      → view built.value ≡ node_data (name_at names node.rule) node.span.start node.span.end children → built.size ≡ node.size
      → more ≡ left ++ built ∷ []
      → objects_of more ≡ objects_of_trees names (trees_of (map row_of (drop at rows)))
  objects_of-more rows at next node step within is forest stack left more children built same took stays made sized pushed =
      let after = trees_of (map row_of (drop (at + 1) rows)) in
      let row = rows_from rows at node within is in
      let same' : objects_of stack ≡ objects_of_trees names after = same ∙ ap (λ n. objects_of_trees names (trees_of (map row_of (drop n rows)))) step in
      let size : 1 + nodes (first_trees (node.size - 1) after) ≡ node.size = IsForest-size (row_of node) (map row_of (drop (at + 1) rows)) (subst IsForest row forest) in
      let inside : children ≡ nested_data names (first_trees (node.size - 1) after) = took ∙ ap (take_values (node.size - 1)) same' ∙ take_values-objects_of_trees (node.size - 1) after in
      let value : view built.value ≡ node_data (name_at names node.rule) node.span.start node.span.end (nested_data names (first_trees (node.size - 1) after)) =
      made ∙ ap (node_data (name_at names node.rule) node.span.start node.span.end) inside in
      let rest : objects_of left ≡ objects_of_trees names (trees_after (node.size - 1) after) = stays ∙ ap (left_after (node.size - 1)) same' ∙ left_after-objects_of_trees (node.size - 1) after in
      ap objects_of pushed ∙ objects_of-push left built
      ∙ ap (λ d. (d, built.size) ∷ objects_of left) value
      ∙ ap (λ n. (node_data (name_at names node.rule) node.span.start node.span.end (nested_data names (first_trees (node.size - 1) after)), n) ∷ objects_of left) (sized ∙ sym size)
      ∙ ap (λ l. (node_data (name_at names node.rule) node.span.start node.span.end (nested_data names (first_trees (node.size - 1) after)), 1 + nodes (first_trees (node.size - 1) after)) ∷ l) rest
      ∙ ap (λ l. objects_of_trees names (trees_of l)) (sym row)

  -- nested data is the list of objects without their sizes
  nested_data-objects : (trees : Trees) → nested_data names trees ≡ map (λ (p : SizedObject). p.0) (objects_of_trees names trees)
  nested_data-objects NoTrees = refl
  nested_data-objects (Tree rule start end children rest) = ap (λ l. node_data (name_at names rule) start end (nested_data names children) ∷ l) (nested_data-objects rest)

  -- one tree has one object
  one_object : (rows : List Row) → IsOneTree rows → length (objects_of_trees names (trees_of rows)) ≡ 1
  one_object rows one =
      ap (λ rows. length (objects_of_trees names (trees_of rows))) one.spelled
      ∙ ap (λ trees. length (objects_of_trees names trees)) (trees_of-rows_of (Tree one.rule one.start one.end one.children NoTrees))

  no_objects : {X : Type 0} (xs : List X) → length xs ≡ 0 → xs ≡ []
  no_objects [] e = refl
  no_objects (x ∷ xs) e = absurd (omega arith)

  -- at the end one object is left, which is the tree's
  pub last_object : (rows : List Row) → IsOneTree rows → (stack left : List Built) (root : Built) → objects_of stack ≡ objects_of_trees names (trees_of rows)
      → stack ≡ left ++ root ∷ [] → nested_data names (trees_of rows) ≡ view root.value ∷ []
  last_object rows one stack left root same popped =
      let whole : object_of root ∷ objects_of left ≡ objects_of_trees names (trees_of rows) = sym (ap objects_of popped ∙ objects_of-push left root) ∙ same in
      let count : 1 + length (objects_of left) ≡ 1 = (let h : suc (length (objects_of left)) ≡ 1 = ap length whole ∙ one_object rows one in omega arith) in
      let none : objects_of left ≡ [] = no_objects (objects_of left) (omega arith) in
      nested_data-objects (trees_of rows) ∙ ap (map (λ (p : SizedObject). p.0)) (sym whole) ∙ ap (λ l. view root.value ∷ map (λ (p : SizedObject). p.0) l) none

  -- before the end the stack is not empty
  pub some_object : (rows : List Row) → IsOneTree rows → (stack : List Built) → objects_of stack ≡ objects_of_trees names (trees_of rows) → stack ≡ [] → ⊥
  some_object rows one stack same empty =
      let count : length (objects_of []) ≡ 1 = ap (λ l. length (objects_of l)) (sym empty) ∙ ap length same ∙ one_object rows one in
      omega arith
