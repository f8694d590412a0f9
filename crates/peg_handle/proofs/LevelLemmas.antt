-- One pass over the nodes of trees computes their levels.
use Rattle.std.proofs.Common.{◌≡◌, ℕ, ◌+◌, ◌<◌, ◌≤◌, List, [], ◌∷◌, ◌++◌, length, drop, get_or, map, reverse}
use Rattle.std.proofs.Common.{refl, subst, sym, ◌∙◌, ap, arith, append_assoc, append-nil}
use Rattle.std.proofs.lemmas.Bool.{cond-true, cond-false, le-leb, lt-leb}
use Rattle.std.proofs.lemmas.List.{drop_more, reverse-append, length-reverse}
use Rattle.peg_tree.specs.declared.row.TreeNode.{TreeNode}
use Rattle.peg_tree.specs.Trees.{Trees, NoTrees, Tree, nodes}
use Rattle.peg_tree.specs.Rows.{Row, row_of, rows_of}
use Rattle.peg_tree.specs.Levels.{levels_of, open_at, levels_of_rows}

-- no unended node ends before this node number
abbrev NoneEndsBefore : (ends : List ℕ) → ℕ → Type 0
NoneEndsBefore [] number = Unit {0}
NoneEndsBefore (end ∷ ends) number = number ≤ end

none_ends_before-same : (ends : List ℕ) (m n : ℕ) → m ≡ n → NoneEndsBefore ends m → NoneEndsBefore ends n
none_ends_before-same ends m n same unended = subst (NoneEndsBefore ends) same unended

-- a node before the innermost end closes nothing
open_at-before : (ends : List ℕ) (number last : ℕ) → NoneEndsBefore ends last → number < last
    → open_at number ends ≡ ends
open_at-before [] number last unended before = refl
open_at-before (end ∷ ends) number last unended before = cond-false _ _ _ (lt-leb end number (omega arith))

-- an open node that ends at the next node is closed there
levels_of_rows-closed : (ends : List ℕ) (number : ℕ) (rows : List Row)
    → levels_of_rows (number ∷ ends) number rows ≡ levels_of_rows ends number rows
levels_of_rows-closed ends number [] = refl
levels_of_rows-closed ends number (row ∷ rows) =
    ap (λ unended. (1 + length unended) ∷ levels_of_rows ((number + row.size) ∷ unended) (number + 1) rows)
    (cond-true _ _ _ (le-leb number number (omega arith)))

-- the pass over trees inside the open nodes, and over the nodes after the trees
levels_of_rows-append : (trees : Trees) (ends : List ℕ) (number : ℕ) (after : List Row)
    → NoneEndsBefore ends (number + nodes trees)
    → levels_of_rows ends number (rows_of trees ++ after)
    ≡ levels_of (1 + length ends) trees ++ levels_of_rows ends (number + nodes trees) after
levels_of_rows-append NoTrees ends number after unended =
    (let same : number ≡ number + 0 = omega arith in ap (λ n. levels_of_rows ends n after) same)
levels_of_rows-append (Tree rule start end children rest) ends number after unended =
    let size = 1 + nodes children in
    let total = number + nodes (Tree rule start end children rest) in
    let inner = (number + size) ∷ ends in
    let level = 1 + length ends in
    let following = rows_of rest ++ after in
    let unclosed = open_at-before ends number total unended (omega arith) in
    let children_end : number + 1 + nodes children ≡ number + size = omega arith in
    let rest_ends : number + size + nodes rest ≡ total = omega arith in
    let total_is : total ≡ number + size + nodes rest = omega arith in
    let inner_level : 1 + length inner ≡ 1 + level = omega arith in
    let below = levels_of_rows-append children inner (number + 1) following (omega arith) in
    let beside =
    levels_of_rows-append rest ends (number + size) after
    (none_ends_before-same ends total (number + size + nodes rest) total_is unended) in
    ap (λ unended. (1 + length unended) ∷ levels_of_rows ((number + size) ∷ unended) (number + 1)
    ((rows_of children ++ rows_of rest) ++ after)) unclosed
    ∙ ap (λ l. level ∷ l) (
    ap (levels_of_rows inner (number + 1)) (append_assoc (rows_of children) (rows_of rest) after)
    ∙ below
    ∙ ap (λ n. levels_of n children ++ levels_of_rows inner (number + 1 + nodes children) following) inner_level
    ∙ ap (λ n. levels_of (1 + level) children ++ levels_of_rows inner n following) children_end
    ∙ ap (λ l. levels_of (1 + level) children ++ l)
    (levels_of_rows-closed ends (number + size) following ∙ beside
    ∙ ap (λ n. levels_of level rest ++ levels_of_rows ends n after) rest_ends)
    ∙ sym (append_assoc (levels_of (1 + level) children) (levels_of level rest) (levels_of_rows ends total after)))

-- the pass over all nodes of trees gives their levels
pub levels_of_rows-rows_of : (trees : Trees) → levels_of_rows [] 0 (rows_of trees) ≡ levels_of 1 trees
levels_of_rows-rows_of trees =
    ap (levels_of_rows [] 0) (sym (append-nil (rows_of trees)))
    ∙ levels_of_rows-append trees [] 0 [] tt
    ∙ append-nil (levels_of 1 trees)

-- the first of the nodes from a number on
rows_from : (rows : List TreeNode) (at : ℕ) (node : TreeNode) → at < length rows → node ≡ get_or rows at node
    → map row_of (drop at rows) ≡ row_of node ∷ map row_of (drop (at + 1) rows)
rows_from rows at node within is =
    ap (map row_of) (drop_more rows at node within)
    ∙ ap (λ n. row_of n ∷ map row_of (drop (at + 1) rows)) (sym is)

-- the pass over one node: its level is one more than the number of open nodes
pub levels_of_rows_step : (rows : List TreeNode) (at : ℕ) (node : TreeNode)
    → at < length rows → node ≡ get_or rows at node
    → (ends unended pushed levels new whole : List ℕ) (count : ℕ)
    → reverse unended ≡ open_at at (reverse ends) → count ≡ length unended
    → pushed ≡ unended ++ (at + node.size) ∷ [] → new ≡ levels ++ (1 + count) ∷ []
    → levels ++ levels_of_rows (reverse ends) at (map row_of (drop at rows)) ≡ whole
    → new ++ levels_of_rows (reverse pushed) (at + 1) (map row_of (drop (at + 1) rows)) ≡ whole
levels_of_rows_step rows at node within is ends unended pushed levels new whole count closed counted pushes adds so_far =
    let rest = map row_of (drop (at + 1) rows) in
    let still = open_at at (reverse ends) in
    let pushed_is : reverse pushed ≡ (at + node.size) ∷ still =
    ap reverse pushes ∙ reverse-append unended ((at + node.size) ∷ []) ∙ ap (λ l. (at + node.size) ∷ l) closed in
    let level_is : 1 + count ≡ 1 + length still =
    ap (λ n. 1 + n) (counted ∙ sym (length-reverse unended) ∙ ap length closed) in
    ap (λ l. l ++ levels_of_rows (reverse pushed) (at + 1) rest) adds
    ∙ append_assoc levels ((1 + count) ∷ []) (levels_of_rows (reverse pushed) (at + 1) rest)
    ∙ ap (λ n. levels ++ n ∷ levels_of_rows (reverse pushed) (at + 1) rest) level_is
    ∙ ap (λ l. levels ++ (1 + length still) ∷ levels_of_rows l (at + 1) rest) pushed_is
    ∙ ap (λ l. levels ++ levels_of_rows (reverse ends) at l) (sym (rows_from rows at node within is))
    ∙ so_far
