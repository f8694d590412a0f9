-- The text of a tree's shown nodes is that of their JSON list, and no level is over the tree's depth.
use Rattle.std.proofs.Common.{◌≡◌, ℕ, zero, suc, ◌+◌, ◌<◌, ◌≤◌, ◌==◌, ◌||◌, nat_lt, Bool, true, false, List, [], ◌∷◌, ◌++◌, length, map, drop, get_or, reverse, vec_len, refl, sym, subst, ap, ◌∙◌, arith, append_assoc}
use Rattle.std.proofs.lemmas.Bool.{le-leb}
use Rattle.std.proofs.lemmas.List.{drop-map, drop_all, get_or-map, length-reverse, reverse-append}
use Rattle.serde_json.specs.Data.{string}
use Rattle.serde_json.specs.View.{items_of}
use Rattle.serde_json.specs.Written.{comma_if, compact_text, items_text}
use Rattle.std.specs.declared.alloc.Global.{Global}
use Rattle.std.specs.declared.vec.Vec.{Vec}
use Rattle.peg_tree.specs.declared.row.TreeNode.{TreeNode}
use Rattle.peg_tree.specs.Json.{rows_data}
use Rattle.peg_tree.specs.Levels.{levels_of, open_at}
use Rattle.peg_tree.specs.Names.{name_at}
use Rattle.peg_tree.specs.Nodes.{RulesBelow}
use Rattle.peg_tree.specs.RowText.{EachAtMost, PrintedRow, levels_from, printed_from, printed_levels, printed_row, printed_rows, printed_text, row_text, text_from}
use Rattle.peg_tree.specs.Rows.{IsOneTree, row_of, rows_of}
use Rattle.peg_tree.specs.Selected.{selected}
use Rattle.peg_tree.specs.Trees.{Trees, NoTrees, Tree, levels}
use Rattle.peg_tree.specs.TreesOfRows.{trees_of}
use Rattle.peg_tree.proofs.Forests.{IsForest-from_one_tree, rows_from}
use Rattle.peg_tree.proofs.PrintedRows.{data-printed_trees, levels-printed_trees, levels-selected, printed_data, printed_rows-hidden, printed_rows-selected, printed_rows-shown, printed_trees}
use Rattle.peg_tree.proofs.SelectedLaws.{RulesBelow-selected}

-- names as JSON strings
abbrev pub quoted_list : List (List ℕ) → List (List ℕ)
quoted_list names = map (λ name. compact_text (string name)) names

name_at-quoted : (names : List (List ℕ)) (rule : ℕ) → rule < length names
    → name_at (quoted_list names) rule ≡ compact_text (string (name_at names rule))
name_at-quoted names rule within = get_or-map (λ name. compact_text (string name)) names rule [] [] within

-- every printed node has a rule number below the bound
abbrev EachRuleBelow : ℕ → List PrintedRow → Type 0
EachRuleBelow bound [] = Unit {0}
EachRuleBelow bound (row ∷ rows) = (row.rule < bound) × EachRuleBelow bound rows

EachRuleBelow-append : (bound : ℕ) (rows more : List PrintedRow) → EachRuleBelow bound rows → EachRuleBelow bound more
    → EachRuleBelow bound (rows ++ more)
EachRuleBelow-append bound [] more h k = k
EachRuleBelow-append bound (row ∷ rows) more h k = (h.0, EachRuleBelow-append bound rows more h.1 k)

EachRuleBelow-printed_trees : (bound level : ℕ) (trees : Trees) → RulesBelow bound trees
    → EachRuleBelow bound (printed_trees level trees)
EachRuleBelow-printed_trees bound level NoTrees below = tt
EachRuleBelow-printed_trees bound level (Tree rule start end children rest) below = (
  below.0,
  EachRuleBelow-append bound (printed_trees (1 + level) children) (printed_trees level rest)
      (EachRuleBelow-printed_trees bound (1 + level) children below.1) (EachRuleBelow-printed_trees bound level rest below.2),
)

-- the text of printed nodes, with the end of the list
printed_text-items : (names : List (List ℕ)) (later : Bool) (rows : List PrintedRow) → EachRuleBelow (length names) rows
    → printed_text later (quoted_list names) rows ++ 93 ∷ [] ≡ items_text later (items_of (map (printed_data names) rows))
printed_text-items names later [] below = refl
printed_text-items names later (row ∷ rows) below =
    let rest = printed_text true (quoted_list names) rows in
    let items = items_text true (items_of (map (printed_data names) rows)) in
    let text = λ (name : List ℕ). row_text row.level name row.start row.end in
    let name = name_at (quoted_list names) row.rule in
    append_assoc (comma_if later) (text name ++ rest) (93 ∷ [])
    ∙ ap (λ l. comma_if later ++ l) (append_assoc (text name) rest (93 ∷ [])
    ∙ ap (λ l. text name ++ l) (printed_text-items names true rows below.1)
    ∙ ap (λ (n : List ℕ). text n ++ items) (name_at-quoted names row.rule below.0))

-- the text of the shown nodes of a tree
pub rows-text : (shown : ℕ → Bool) (names : List (List ℕ)) (tree : Trees) → RulesBelow (length names) tree
    → printed_text false (quoted_list names) (printed_rows shown [] 0 (rows_of tree)) ++ 93 ∷ []
    ≡ items_text false (items_of (rows_data names 1 (selected shown tree)))
rows-text shown names tree below =
    let below_all = RulesBelow-selected shown (length names) tree below in
    ap (λ l. printed_text false (quoted_list names) l ++ 93 ∷ []) (printed_rows-selected shown tree)
    ∙ printed_text-items names false (printed_trees 1 (selected shown tree))
    (EachRuleBelow-printed_trees (length names) 1 (selected shown tree) below_all)
    ∙ ap (λ l. items_text false (items_of l)) (data-printed_trees names 1 (selected shown tree))

-- ---- levels

EachAtMost-append : (limit : ℕ) (front back : List ℕ) → EachAtMost limit front → EachAtMost limit back
    → EachAtMost limit (front ++ back)
EachAtMost-append limit [] back h k = k
EachAtMost-append limit (number ∷ front) back h k = (h.0, EachAtMost-append limit front back h.1 k)

levels-at_most : (limit level : ℕ) (trees : Trees) → level + levels trees ≤ limit + 1 → EachAtMost limit (levels_of level trees)
levels-at_most limit level NoTrees within = tt
levels-at_most limit level (Tree rule start end children rest) within = (
  omega arith,
  EachAtMost-append limit (levels_of (1 + level) children) (levels_of level rest)
      (levels-at_most limit (1 + level) children (omega arith)) (levels-at_most limit level rest (omega arith)),
)

-- no shown node is deeper than the depth of the tree
pub rows-at_most : (shown : ℕ → Bool) (tree : Trees)
    → EachAtMost (levels tree) (printed_levels (printed_rows shown [] 0 (rows_of tree)))
rows-at_most shown tree =
    let is : printed_levels (printed_rows shown [] 0 (rows_of tree)) ≡ levels_of 1 (selected shown tree) =
    ap printed_levels (printed_rows-selected shown tree) ∙ levels-printed_trees 1 (selected shown tree) in
    subst (EachAtMost (levels tree)) (sym is)
    (levels-at_most (levels tree) 1 (selected shown tree) (omega (arith, levels-selected shown tree)))

-- ---- the stored nodes

pub rows-held : (rows : List TreeNode) (tree : Trees) (at : ℕ) → IsOneTree (map row_of rows)
    → trees_of (map row_of rows) ≡ tree → map row_of (drop at rows) ≡ drop at (rows_of tree)
rows-held rows tree at one same =
    sym (drop-map row_of at rows)
    ∙ ap (drop at) (sym (IsForest-from_one_tree (map row_of rows) one) ∙ ap rows_of same)

-- ---- one more node

-- the ends after one more node is opened, innermost first, and their number
inner : (at size : ℕ) (ends kept more : List ℕ) → reverse kept ≡ open_at at (reverse ends)
    → more ≡ kept ++ (at + size) ∷ [] → reverse more ≡ (at + size) ∷ open_at at (reverse ends)
inner at size ends kept more closed pushed =
    ap reverse pushed ∙ reverse-append kept ((at + size) ∷ []) ∙ ap (λ l. (at + size) ∷ l) closed

still : (at : ℕ) (ends kept : List ℕ) (count : ℕ) → reverse kept ≡ open_at at (reverse ends) → count ≡ length kept
    → length (open_at at (reverse ends)) ≡ count
still at ends kept count closed counted = sym (counted ∙ sym (length-reverse kept) ∙ ap length closed)

-- from one shown node on, what is printed is that node, then what is printed after it
printed-more : (shown : ℕ → Bool) (rows : List TreeNode) (at : ℕ) (node : TreeNode) → at < length rows
    → node ≡ get_or rows at node → ((at == 0) || shown node.rule) ≡ true
    → (ends kept more : List ℕ) → reverse kept ≡ open_at at (reverse ends) → more ≡ kept ++ (at + node.size) ∷ []
    → (count : ℕ) → count ≡ length kept
    → printed_from shown rows at ends ≡ printed_row (1 + count) (row_of node) ∷ printed_from shown rows (at + 1) more
printed-more shown rows at node within is written ends kept more closed pushed count counted =
    let following = map row_of (drop (at + 1) rows) in
    let inside = (at + node.size) ∷ open_at at (reverse ends) in
    ap (printed_rows shown (reverse ends) at) (rows_from rows at node within is)
    ∙ printed_rows-shown shown (reverse ends) at (row_of node) following written
    ∙ ap (λ n. printed_row (1 + n) (row_of node) ∷ printed_rows shown inside (at + 1) following) (still at ends kept count closed counted)
    ∙ ap (λ l. printed_row (1 + count) (row_of node) ∷ printed_rows shown l (at + 1) following)
    (sym (inner at node.size ends kept more closed pushed))

-- only the root is written whatever its rule
after-first : (at : ℕ) (shown : Bool) → ((at == 0) || shown) ≡ false → 0 < at
after-first zero shown hidden = absurd cc
after-first (suc at) shown hidden = omega arith

-- from a node on that is not shown, what is printed is what is printed after it
printed-rest : (shown : ℕ → Bool) (rows : List TreeNode) (at : ℕ) (node : TreeNode) → at < length rows
    → node ≡ get_or rows at node → ((at == 0) || shown node.rule) ≡ false
    → (ends : List ℕ) → printed_from shown rows at ends ≡ printed_from shown rows (at + 1) ends
printed-rest shown rows at node within is hidden ends =
    ap (printed_rows shown (reverse ends) at) (rows_from rows at node within is)
    ∙ printed_rows-hidden shown (reverse ends) at (row_of node) (map row_of (drop (at + 1) rows)) hidden

-- the same for the text
pub text-more : (shown : ℕ → Bool) (names : List (Vec ℕ Global)) (rows : List TreeNode) (at : ℕ) (node : TreeNode)
    → at < length rows → node ≡ get_or rows at node → ((at == 0) || shown node.rule) ≡ true
    → (ends kept more : List ℕ) → reverse kept ≡ open_at at (reverse ends)
    → more ≡ kept ++ (at + node.size) ∷ [] → (count : ℕ) → count ≡ length kept → (name : Vec ℕ Global)
    → node.rule < length names → name ≡ get_or names node.rule name
    → text_from shown names rows at ends
    ≡ comma_if (nat_lt 0 at) ++ (row_text (1 + count) name.items node.span.start node.span.end
    ++ text_from shown names rows (at + 1) more)
text-more shown names rows at node within is written ends kept more closed pushed count counted name below named =
    let list = map (λ (n : Vec ℕ Global). n.items) names in
    let after = printed_from shown rows (at + 1) more in
    let text = λ (name : List ℕ) (rest : List ℕ). comma_if (nat_lt 0 at)
    ++ (row_text (1 + count) name node.span.start node.span.end ++ rest) in
    let named_so : name_at list node.rule ≡ name.items =
    get_or-map (λ (n : Vec ℕ Global). n.items) names node.rule name [] below ∙ ap (λ (n : Vec ℕ Global). n.items) (sym named) in
    let later : true ≡ nat_lt 0 (at + 1) = sym (le-leb 1 (at + 1) (omega arith)) in
    ap (printed_text (nat_lt 0 at) list)
    (printed-more shown rows at node within is written ends kept more closed pushed count counted)
    ∙ ap (λ w. text w (printed_text true list after)) named_so
    ∙ ap (λ b. text name.items (printed_text b list after)) later

pub text-rest : (shown : ℕ → Bool) (names : List (Vec ℕ Global)) (rows : List TreeNode) (at : ℕ) (node : TreeNode)
    → at < length rows → node ≡ get_or rows at node → ((at == 0) || shown node.rule) ≡ false
    → (ends : List ℕ) → text_from shown names rows at ends ≡ text_from shown names rows (at + 1) ends
text-rest shown names rows at node within is hidden ends =
    let list = map (λ (n : Vec ℕ Global). n.items) names in
    let later : nat_lt 0 at ≡ nat_lt 0 (at + 1) =
    le-leb 1 at (after-first at (shown node.rule) hidden) ∙ sym (le-leb 1 (at + 1) (omega arith)) in
    ap (printed_text (nat_lt 0 at) list) (printed-rest shown rows at node within is hidden ends)
    ∙ ap (λ b. printed_text b list (printed_from shown rows (at + 1) ends)) later

-- the capacity suffices for one more end
pub room-for_end : (shown : ℕ → Bool) (rows : List TreeNode) (at : ℕ) (node : TreeNode) → at < length rows
    → node ≡ get_or rows at node → ((at == 0) || shown node.rule) ≡ true
    → (ends kept : List ℕ) → reverse kept ≡ open_at at (reverse ends) → (limit : ℕ)
    → EachAtMost limit (levels_from shown rows at ends) → length kept < limit
room-for_end shown rows at node within is written ends kept closed limit each =
    omega (
      arith,
      (subst (λ l. EachAtMost limit (printed_levels l)) (printed-more shown rows at node within is written ends kept
          (kept ++ (at + node.size) ∷ []) closed refl (length kept) refl) each).0,
    )

pub levels-more : (shown : ℕ → Bool) (rows : List TreeNode) (at : ℕ) (node : TreeNode) → at < length rows
    → node ≡ get_or rows at node → ((at == 0) || shown node.rule) ≡ true
    → (ends kept more : List ℕ) → reverse kept ≡ open_at at (reverse ends) → more ≡ kept ++ (at + node.size) ∷ []
    → (limit : ℕ) → EachAtMost limit (levels_from shown rows at ends) → EachAtMost limit (levels_from shown rows (at + 1) more)
levels-more shown rows at node within is written ends kept more closed pushed limit each =
    (subst (λ l. EachAtMost limit (printed_levels l)) (printed-more shown rows at node within is written ends kept more
    closed pushed (length kept) refl) each).1

pub levels-rest : (shown : ℕ → Bool) (rows : List TreeNode) (at : ℕ) (node : TreeNode) → at < length rows
    → node ≡ get_or rows at node → ((at == 0) || shown node.rule) ≡ false
    → (ends : List ℕ) (limit : ℕ) → EachAtMost limit (levels_from shown rows at ends)
    → EachAtMost limit (levels_from shown rows (at + 1) ends)
levels-rest shown rows at node within is hidden ends limit each =
    subst (λ l. EachAtMost limit (printed_levels l)) (printed-rest shown rows at node within is hidden ends) each

-- after the last node the text is empty
pub text-ended : (shown : ℕ → Bool) (names : List (Vec ℕ Global)) (rows : List TreeNode) (at : ℕ) (ends : List ℕ)
    → length rows ≤ at → text_from shown names rows at ends ≡ []
text-ended shown names rows at ends over =
    ap (λ l. printed_text (nat_lt 0 at) (map (λ (n : Vec ℕ Global). n.items) names) (printed_rows shown (reverse ends) at (map row_of l)))
    (drop_all at rows over)

-- ---- the space for names

pub EachAtMost-weaker : (low high : ℕ) (numbers : List ℕ) → low ≤ high → EachAtMost low numbers → EachAtMost high numbers
EachAtMost-weaker low high [] less h = tt
EachAtMost-weaker low high (number ∷ numbers) less h = (omega arith, EachAtMost-weaker low high numbers less h.1)

-- one more number
pub EachAtMost-push : (limit : ℕ) (numbers : List ℕ) (number : ℕ) → EachAtMost limit numbers → number ≤ limit
    → EachAtMost limit (numbers ++ number ∷ [])
EachAtMost-push limit numbers number h k = EachAtMost-append limit numbers (number ∷ []) h (k, tt)

pub name-fits : (limit : ℕ) (names : List (Vec ℕ Global)) (rule : ℕ) (name : Vec ℕ Global) → rule < length names
    → name ≡ get_or names rule name → EachAtMost limit (map (λ n. vec_len n) names) → vec_len name ≤ limit
name-fits limit [] rule name within is h = absurd (omega arith)
name-fits limit (first ∷ names) zero name within is h = subst (λ (n : Vec ℕ Global). vec_len n ≤ limit) (sym is) h.0
name-fits limit (first ∷ names) (suc rule) name within is h = name-fits limit names rule name (omega arith) is h.1
