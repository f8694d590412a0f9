-- The entries of a node and of its children in the node list.
use Rattle.std.proofs.Common.{◌≡◌, true, ℕ, zero, suc, ◌+◌, ◌-◌, ◌<◌, ◌≤◌, inl, inr, List, ◌∷◌, ◌++◌, nat_lt, length, drop, get_or, map, refl, sym, ◌∙◌, ap, subst, arith, append_assoc}
use Rattle.std.proofs.lemmas.Bool.{cond-true, cond-false, lt-ltb, le-ltb, ltb-true, cases_lt, and_parts, and_from}
use Rattle.std.proofs.lemmas.List.{length-map, get_or_append_left, get_or-append_right, get_or-append-add, drop-append-le, drop-drop, drop_at, get_or-map, get_or-drop}
use Rattle.peg_tree.specs.declared.row.TreeNode.{TreeNode}
use Rattle.peg_tree.specs.Trees.{Trees, NoTrees, Tree, nodes, followed_by}
use Rattle.peg_tree.specs.Rows.{Row, row_of, rows_of, IsOneTree}
use Rattle.peg_tree.specs.TreesOfRows.{trees_of, IsForest}
use Rattle.peg_tree.specs.Nodes.{Node, node_at, first_root, root_count, trees_from, nodes_before, child_at, RulesBelow}
use Rattle.peg_tree.proofs.Forests.{length-rows_of, rows_of-followed_by, nodes-trees_of, IsForest-from_one_tree, size_of_one_tree, row_size}
use Rattle.std.specs.List.{list_all}
use Rattle.std.proofs.lemmas.List.Folds.{list_all-append, list_all-map}

-- the entry of a node in the node list
abbrev pub row_at : Node → Row
row_at node = record { rule = node.rule; start = node.start; end = node.end; size = 1 + nodes node.children }

-- a node among the children, or among the trees after the first
pub node_at-below : (rule start end : ℕ) (children rest : Trees) (number : ℕ) → number < nodes children
    → node_at (Tree rule start end children rest) (suc number) ≡ node_at children number
node_at-below rule start end children rest number h = cond-true _ _ _ (lt-ltb number (nodes children) h)

pub node_at-after : (rule start end : ℕ) (children rest : Trees) (number : ℕ) → nodes children ≤ number
    → node_at (Tree rule start end children rest) (suc number) ≡ node_at rest (number - nodes children)
node_at-after rule start end children rest number h = cond-false _ _ _ (le-ltb number (nodes children) h)

-- entry number n of the node list is that of node n
pub get_or-rows_of : (trees : Trees) (number : ℕ) (d : Row) → number < nodes trees → get_or (rows_of trees) number d ≡ row_at (node_at trees number)
get_or-rows_of NoTrees number d h = absurd (omega arith)
get_or-rows_of (Tree rule start end children rest) zero d h = refl
get_or-rows_of (Tree rule start end children rest) (suc number) d h =
    let count = length-rows_of children in
    elim (cases_lt number (nodes children)) [
      | inl below ↦ get_or_append_left (rows_of children) (rows_of rest) d number (omega arith)
          ∙ get_or-rows_of children number d below
          ∙ ap row_at (sym (node_at-below rule start end children rest number below))
      | inr above ↦ get_or-append_right (rows_of children) (rows_of rest) (nodes children) number d count above
          ∙ get_or-rows_of rest (number - nodes children) d (omega arith)
          ∙ ap row_at (sym (node_at-after rule start end children rest number above))
    ]

-- dropping more than a prefix drops from the rest
drop-append-past : {X : Type 0} (xs ys : List X) (n number : ℕ) → length xs ≡ n → n ≤ number → drop (suc number) (xs ++ ys) ≡ drop (suc (number - n)) ys
drop-append-past xs ys n number count above =
    (let e : suc number ≡ n + suc (number - n) = omega arith in ap (λ k. drop k (xs ++ ys)) e)
    ∙ sym (drop-drop (suc (number - n)) n (xs ++ ys))
    ∙ ap (drop (suc (number - n))) (drop_at xs ys n count)

-- after the entry of a node come the entries of its children, then those of other trees
pub rows_below : (trees : Trees) (number : ℕ) → number < nodes trees
    → (more : Trees) × (drop (suc number) (rows_of trees) ≡ rows_of (node_at trees number).children ++ rows_of more)
rows_below NoTrees number h = absurd (omega arith)
rows_below (Tree rule start end children rest) zero h = (rest, refl)
rows_below (Tree rule start end children rest) (suc number) h =
    let count = length-rows_of children in
    let shape = λ (node : Node). (more : Trees) × (drop (suc number) (rows_of children ++ rows_of rest) ≡ rows_of node.children ++ rows_of more) in
    elim (cases_lt number (nodes children)) [
      | inl below ↦
          let part = rows_below children number below in
          subst shape (sym (node_at-below rule start end children rest number below)) (
            followed_by part.0 rest,
            drop-append-le (suc number) (rows_of children) (rows_of rest) (omega arith)
                ∙ ap (λ rows. rows ++ rows_of rest) part.1
                ∙ append_assoc (rows_of (node_at children number).children) (rows_of part.0) (rows_of rest)
                ∙ ap (λ rows. rows_of (node_at children number).children ++ rows) (sym (rows_of-followed_by part.0 rest)),
          )
      | inr above ↦
          let part = rows_below rest (number - nodes children) (omega arith) in
          subst shape (sym (node_at-after rule start end children rest number above))
          (part.0, drop-append-past (rows_of children) (rows_of rest) (nodes children) number count above ∙ part.1)
    ]

-- the nodes below a node are within the tree
pub node_ends_within : (trees : Trees) (number : ℕ) → number < nodes trees → number + 1 + nodes (node_at trees number).children ≤ nodes trees
node_ends_within NoTrees number h = absurd (omega arith)
node_ends_within (Tree rule start end children rest) zero h = omega arith
node_ends_within (Tree rule start end children rest) (suc number) h =
    elim (cases_lt number (nodes children)) [
      | inl below ↦ let part = node_ends_within children number below in rw (node_at-below rule start end children rest number below) (omega arith)
      | inr above ↦ let part = node_ends_within rest (number - nodes children) (omega arith) in rw (node_at-after rule start end children rest number above) (omega arith)
    ]

-- all nodes are before the end of the trees, and fewer are before each tree
pub nodes_before-all : (trees : Trees) → nodes_before (root_count trees) trees ≡ nodes trees
nodes_before-all NoTrees = refl
nodes_before-all (Tree rule start end children rest) =
    (let e : 1 + root_count rest ≡ suc (root_count rest) = omega arith in ap (λ n. nodes_before n (Tree rule start end children rest)) e)
    ∙ ap (λ n. 1 + nodes children + n) (nodes_before-all rest)

pub nodes_before-one : (trees : Trees) (nth : ℕ) → nth < root_count trees → nodes_before nth trees < nodes trees
nodes_before-one NoTrees nth h = absurd (omega arith)
nodes_before-one (Tree rule start end children rest) zero h = omega arith
nodes_before-one (Tree rule start end children rest) (suc nth) h = let part = nodes_before-one rest nth (omega arith) in omega arith

pub nodes_before-few : (trees : Trees) (nth : ℕ) → nodes_before nth trees ≤ nodes trees
nodes_before-few trees zero = omega arith
nodes_before-few NoTrees (suc nth) = omega arith
nodes_before-few (Tree rule start end children rest) (suc nth) = let part = nodes_before-few rest nth in omega arith

-- the size of a tree leads to the number of the next tree
pub nodes_before-more : (trees : Trees) (more : List Row) (nth : ℕ) (d : Row) → nth < root_count trees
    → nodes_before nth trees + (get_or (rows_of trees ++ more) (nodes_before nth trees) d).size ≡ nodes_before (suc nth) trees
nodes_before-more NoTrees more nth d h = absurd (omega arith)
nodes_before-more (Tree rule start end children rest) more zero d h = omega arith
nodes_before-more (Tree rule start end children rest) more (suc nth) d h =
    let row : Row = record { rule = rule; start = start; end = end; size = 1 + nodes children } in
    let front = row ∷ rows_of children in
    let count : length front ≡ 1 + nodes children = omega (arith, length-rows_of children) in
    let there : get_or (front ++ (rows_of rest ++ more)) (1 + nodes children + nodes_before nth rest) d ≡ get_or (rows_of rest ++ more) (nodes_before nth rest) d =
    ap (λ n. get_or (front ++ (rows_of rest ++ more)) (n + nodes_before nth rest) d) (sym count)
    ∙ get_or-append-add front (rows_of rest ++ more) (nodes_before nth rest) d in
    let joined : (row ∷ (rows_of children ++ rows_of rest)) ++ more ≡ front ++ (rows_of rest ++ more) = append_assoc front (rows_of rest) more in
    let size : (get_or ((row ∷ (rows_of children ++ rows_of rest)) ++ more) (1 + nodes children + nodes_before nth rest) d).size ≡ (get_or (rows_of rest ++ more) (nodes_before nth rest) d).size =
    ap (λ rows. (get_or rows (1 + nodes children + nodes_before nth rest) d).size) joined ∙ ap (λ (r : Row). r.size) there in
    let part = nodes_before-more rest more nth d (omega arith) in
    omega arith

-- a node below another node is a node of its children
pub node_at-child : (trees : Trees) (number below : ℕ) → number < nodes trees → below < nodes (node_at trees number).children
    → node_at trees (suc number + below) ≡ node_at (node_at trees number).children below
node_at-child NoTrees number below h k = absurd (omega arith)
node_at-child (Tree rule start end children rest) zero below h k =
    (let e : 1 + below ≡ suc below = omega arith in ap (node_at (Tree rule start end children rest)) e)
    ∙ node_at-below rule start end children rest below k
node_at-child (Tree rule start end children rest) (suc number) below h k =
    let next : suc (suc number) + below ≡ suc (suc number + below) = omega arith in
    ap (node_at (Tree rule start end children rest)) next
    ∙ elim (cases_lt number (nodes children)) [
      | inl inside ↦
          let same = node_at-below rule start end children rest number inside in
          let k' : below < nodes (node_at children number).children = subst (λ (n : Node). below < nodes n.children) same k in
          let end_within = node_ends_within children number inside in
          node_at-below rule start end children rest (suc number + below) (omega arith)
          ∙ node_at-child children number below inside k'
          ∙ ap (λ (n : Node). node_at n.children below) (sym same)
      | inr above ↦
          let same = node_at-after rule start end children rest number above in
          let k' : below < nodes (node_at rest (number - nodes children)).children = subst (λ (n : Node). below < nodes n.children) same k in
          let shift : suc number + below - nodes children ≡ suc (number - nodes children) + below = omega arith in
          node_at-after rule start end children rest (suc number + below) (omega arith)
          ∙ ap (node_at rest) shift
          ∙ node_at-child rest (number - nodes children) below (omega arith) k'
          ∙ ap (λ (n : Node). node_at n.children below) (sym same)
    ]

-- the node after the trees before index `nth` is the root of the tree at that index
pub node_at-nodes_before : (trees : Trees) (nth : ℕ) → nth < root_count trees → node_at trees (nodes_before nth trees) ≡ first_root (trees_from nth trees)
node_at-nodes_before NoTrees nth h = absurd (omega arith)
node_at-nodes_before (Tree rule start end children rest) zero h = refl
node_at-nodes_before (Tree rule start end children rest) (suc nth) h =
    let next : 1 + nodes children + nodes_before nth rest ≡ suc (nodes children + nodes_before nth rest) = omega arith in
    let less : nodes children + nodes_before nth rest - nodes children ≡ nodes_before nth rest = omega arith in
    ap (node_at (Tree rule start end children rest)) next
    ∙ node_at-after rule start end children rest (nodes children + nodes_before nth rest) (omega arith)
    ∙ ap (node_at rest) less
    ∙ node_at-nodes_before rest nth (omega arith)

-- node lists that are one tree, as the code reads them
module _ (rows : List TreeNode) (one : IsOneTree (map row_of rows)) where
  pub forest_of_tree : IsForest (map row_of rows)
  forest_of_tree = IsForest-from_one_tree (map row_of rows) one

  pub nodes_of_tree : nodes (trees_of (map row_of rows)) ≡ length rows
  nodes_of_tree = nodes-trees_of (map row_of rows) forest_of_tree ∙ length-map rows row_of

  pub some_nodes : 0 < nodes (trees_of (map row_of rows))
  some_nodes =
      let count = size_of_one_tree (map row_of rows) one in
      let spelled = ap row_size one.spelled in
      omega (arith, nodes-trees_of (map row_of rows) forest_of_tree)

  -- the entry of a node
  pub row_of_node : (number : ℕ) → number < nodes (trees_of (map row_of rows)) → (node : TreeNode) → node ≡ get_or rows number node
      → row_of node ≡ row_at (node_at (trees_of (map row_of rows)) number)
  row_of_node number within node is =
      ap row_of is
      ∙ sym (get_or-map row_of rows number node (row_of node) (omega (arith, nodes_of_tree)))
      ∙ ap (λ l. get_or l number (row_of node)) (sym forest_of_tree)
      ∙ get_or-rows_of (trees_of (map row_of rows)) number (row_of node) within

  module _ (number : ℕ) (within : number < nodes (trees_of (map row_of rows))) where
    -- the end of a node's subtree is within the list
    pub end_of_node : number + 1 + nodes (node_at (trees_of (map row_of rows)) number).children ≤ length rows
    end_of_node = omega (arith, nodes_of_tree, node_ends_within (trees_of (map row_of rows)) number within)

    -- while nodes of the subtree are left, a child is left
    pub more_children : (nth : ℕ) → nth ≤ root_count (node_at (trees_of (map row_of rows)) number).children
        → child_at (trees_of (map row_of rows)) number nth < number + 1 + nodes (node_at (trees_of (map row_of rows)) number).children
        → nth < root_count (node_at (trees_of (map row_of rows)) number).children
    more_children nth few left =
        let children = (node_at (trees_of (map row_of rows)) number).children in
        elim (cases_lt nth (root_count children)) [
          | inl below ↦ below
          | inr above ↦
              let same : nth ≡ root_count children = omega arith in
              let all : nodes_before nth children ≡ nodes children = ap (λ n. nodes_before n children) same ∙ nodes_before-all children in
              absurd (omega arith)
        ]

    -- if no node of the subtree is left, no child is left
    pub no_more_children : (nth : ℕ) → nth ≤ root_count (node_at (trees_of (map row_of rows)) number).children
        → number + 1 + nodes (node_at (trees_of (map row_of rows)) number).children ≤ child_at (trees_of (map row_of rows)) number nth
        → nth ≡ root_count (node_at (trees_of (map row_of rows)) number).children
    no_more_children nth few none =
        let children = (node_at (trees_of (map row_of rows)) number).children in
        elim (cases_lt nth (root_count children)) [
          | inl below ↦ let fewer = nodes_before-one children nth below in absurd (omega arith)
          | inr above ↦ omega arith
        ]

    module _ (nth : ℕ) (has : nth < root_count (node_at (trees_of (map row_of rows)) number).children) where
      -- the number of a child is within the list
      pub child_within : child_at (trees_of (map row_of rows)) number nth < length rows
      child_within = omega (arith, end_of_node, nodes_before-one (node_at (trees_of (map row_of rows)) number).children nth has)

      -- the node with a child's number is the root of that child
      pub node_at-child_at : node_at (trees_of (map row_of rows)) (child_at (trees_of (map row_of rows)) number nth)
          ≡ first_root (trees_from nth (node_at (trees_of (map row_of rows)) number).children)
      node_at-child_at =
          let children = (node_at (trees_of (map row_of rows)) number).children in
          let fewer = nodes_before-one children nth has in
          (let e : number + 1 + nodes_before nth children ≡ suc number + nodes_before nth children = omega arith in ap (node_at (trees_of (map row_of rows))) e)
          ∙ node_at-child (trees_of (map row_of rows)) number (nodes_before nth children) within fewer
          ∙ node_at-nodes_before children nth has

      -- the size of a child leads to the number of the next child
      pub child_at-more : (node : TreeNode) → node ≡ get_or rows (child_at (trees_of (map row_of rows)) number nth) node
          → child_at (trees_of (map row_of rows)) number nth + node.size ≡ child_at (trees_of (map row_of rows)) number (nth + 1)
      child_at-more node is =
          let children = (node_at (trees_of (map row_of rows)) number).children in
          let parts = rows_below (trees_of (map row_of rows)) number within in
          let before = nodes_before nth children in
          let row : row_of node ≡ get_or (rows_of children ++ rows_of parts.0) before (row_of node) =
          ap row_of is
          ∙ sym (get_or-map row_of rows (number + 1 + before) node (row_of node) child_within)
          ∙ ap (λ l. get_or l (number + 1 + before) (row_of node)) (sym forest_of_tree)
          ∙ (let e : number + 1 + before ≡ suc number + before = omega arith in ap (λ n. get_or (rows_of (trees_of (map row_of rows))) n (row_of node)) e)
          ∙ sym (get_or-drop (suc number) (rows_of (trees_of (map row_of rows))) before (row_of node))
          ∙ ap (λ l. get_or l before (row_of node)) parts.1 in
          let size : node.size ≡ (get_or (rows_of children ++ rows_of parts.0) before (row_of node)).size = ap (λ (r : Row). r.size) row in
          let next = nodes_before-more children (rows_of parts.0) nth (row_of node) has in
          let after : nth + 1 ≡ suc nth = omega arith in
          let all : number + 1 + before + node.size ≡ number + 1 + nodes_before (suc nth) children = omega arith in
          all ∙ ap (λ n. number + 1 + nodes_before n children) (sym after)

      -- a child has at least one node
      pub child_has_size : (node : TreeNode) → node ≡ get_or rows (child_at (trees_of (map row_of rows)) number nth) node → 0 < node.size
      child_has_size node is =
          let inside : child_at (trees_of (map row_of rows)) number nth < nodes (trees_of (map row_of rows)) = omega (arith, child_within, nodes_of_tree) in
          let same = ap (λ (r : Row). r.size) (row_of_node (child_at (trees_of (map row_of rows)) number nth) inside node is) in
          omega arith

      -- the next child, or the end of the children, is within the subtree
      pub child_ends_within : child_at (trees_of (map row_of rows)) number (nth + 1) ≤ number + 1 + nodes (node_at (trees_of (map row_of rows)) number).children
      child_ends_within = let few = nodes_before-few (node_at (trees_of (map row_of rows)) number).children (nth + 1) in omega arith

-- the rule numbers of trees are below a bound exactly if those of their node list are
pub RulesBelow-from_all : (bound : ℕ) (trees : Trees) → list_all (λ (row : Row). nat_lt row.rule bound) (rows_of trees) ≡ true → RulesBelow bound trees
RulesBelow-from_all bound NoTrees h = tt
RulesBelow-from_all bound (Tree rule start end children rest) h =
    let here = and_parts (nat_lt rule bound) (list_all (λ (row : Row). nat_lt row.rule bound) (rows_of children ++ rows_of rest)) h in
    let joined = sym (list_all-append (λ (row : Row). nat_lt row.rule bound) (rows_of children) (rows_of rest)) ∙ here.1 in
    let both = and_parts _ _ joined in
    (ltb-true rule bound here.0, RulesBelow-from_all bound children both.0, RulesBelow-from_all bound rest both.1)

pub all-from_RulesBelow : (bound : ℕ) (trees : Trees) → RulesBelow bound trees → list_all (λ (row : Row). nat_lt row.rule bound) (rows_of trees) ≡ true
all-from_RulesBelow bound NoTrees h = refl
all-from_RulesBelow bound (Tree rule start end children rest) h =
    and_from _ _ (lt-ltb rule bound h.0)
    (list_all-append (λ (row : Row). nat_lt row.rule bound) (rows_of children) (rows_of rest)
    ∙ and_from _ _ (all-from_RulesBelow bound children h.1) (all-from_RulesBelow bound rest h.2))

-- the same for the node list as the code reads it
pub rules_of_tree : (rows : List TreeNode) (bound : ℕ) → IsOneTree (map row_of rows)
    → list_all (λ (row : Row). nat_lt row.rule bound) (rows_of (trees_of (map row_of rows))) ≡ list_all (λ (node : TreeNode). nat_lt node.rule bound) rows
rules_of_tree rows bound one =
    ap (list_all (λ (row : Row). nat_lt row.rule bound)) (IsForest-from_one_tree (map row_of rows) one)
    ∙ list_all-map (λ (row : Row). nat_lt row.rule bound) row_of rows

-- the same for a tree with a name
pub within_rows : (rows : List TreeNode) (one : IsOneTree (map row_of rows)) (trees : Trees) → trees_of (map row_of rows) ≡ trees
    → (number : ℕ) → number < nodes trees → number < length rows
within_rows rows one trees same number h = let count = nodes_of_tree rows one in let named = ap nodes same in omega arith
