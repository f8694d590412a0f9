-- The levels computed from a node list are the levels of its trees.
use Rattle.std.proofs.Common.{◌≡◌, ℕ, ◌+◌, ◌<◌, ◌≤◌, List, [], ◌∷◌, ◌++◌, length, drop, get_or, map, reverse, refl, subst, sym, ◌∙◌, ap, arith, append_assoc, append-nil}
use Rattle.std.proofs.lemmas.Bool.{cond-true, cond-false, le-leb, lt-leb}
use Rattle.std.proofs.lemmas.List.{reverse-append, length-reverse}
use Rattle.peg_tree.specs.declared.row.TreeNode.{TreeNode}
use Rattle.peg_tree.proofs.Forests.{rows_from}
use Rattle.peg_tree.specs.Trees.{Trees, NoTrees, Tree, nodes}
use Rattle.peg_tree.specs.Rows.{Row, row_of, rows_of}
use Rattle.peg_tree.specs.Levels.{levels_of, open_at, levels_of_rows}

-- the innermost open node, if any, ends at `nth` or later
abbrev pub Reaches : List ℕ → ℕ → Type 0
Reaches [] nth = Unit {0}
Reaches (end ∷ ends) nth = nth ≤ end

pub Reaches-same : (ends : List ℕ) (a b : ℕ) → a ≡ b → Reaches ends a → Reaches ends b
Reaches-same ends a b e h = subst (Reaches ends) e h

-- no node is closed before the innermost end
pub open_at-same : (ends : List ℕ) (number nth : ℕ) → Reaches ends nth → number < nth → open_at number ends ≡ ends
open_at-same [] number nth h less = refl
open_at-same (end ∷ ends) number nth h less = cond-false _ _ _ (lt-leb end number (omega arith))

-- an end that has been reached does not count
levels_of_rows-ended : (ends : List ℕ) (number : ℕ) (rows : List Row) → levels_of_rows (number ∷ ends) number rows ≡ levels_of_rows ends number rows
levels_of_rows-ended ends number [] = refl
levels_of_rows-ended ends number (row ∷ rows) =
    ap (λ still. (1 + length still) ∷ levels_of_rows ((number + row.size) ∷ still) (number + 1) rows) (cond-true _ _ _ (le-leb number number (omega arith)))

-- the levels of trees below the open nodes, and of the nodes after them
levels_of_rows-append : (trees : Trees) (ends : List ℕ) (number : ℕ) (more : List Row) → Reaches ends (number + nodes trees)
    → levels_of_rows ends number (rows_of trees ++ more) ≡ levels_of (1 + length ends) trees ++ levels_of_rows ends (number + nodes trees) more
levels_of_rows-append NoTrees ends number more h = (let e : number ≡ number + 0 = omega arith in ap (λ n. levels_of_rows ends n more) e)
levels_of_rows-append (Tree rule start end children rest) ends number more h =
    let size = 1 + nodes children in
    let same = open_at-same ends number (number + nodes (Tree rule start end children rest)) h (omega arith) in
    let inner = (number + size) ∷ ends in
    let e1 : number + 1 + nodes children ≡ number + size = omega arith in
    let e2 : number + size + nodes rest ≡ number + nodes (Tree rule start end children rest) = omega arith in
    let e2' : number + nodes (Tree rule start end children rest) ≡ number + size + nodes rest = omega arith in
    let deeper : 1 + length inner ≡ 1 + (1 + length ends) = omega arith in
    let below = levels_of_rows-append children inner (number + 1) (rows_of rest ++ more) (omega arith) in
    let after = levels_of_rows-append rest ends (number + size) more (Reaches-same ends (number + nodes (Tree rule start end children rest)) (number + size + nodes rest) e2' h) in
    ap (λ still. (1 + length still) ∷ levels_of_rows ((number + size) ∷ still) (number + 1) ((rows_of children ++ rows_of rest) ++ more)) same
    ∙ ap (λ l. (1 + length ends) ∷ l) (
    ap (levels_of_rows inner (number + 1)) (append_assoc (rows_of children) (rows_of rest) more)
    ∙ below
    ∙ ap (λ n. levels_of n children ++ levels_of_rows inner (number + 1 + nodes children) (rows_of rest ++ more)) deeper
    ∙ ap (λ n. levels_of (1 + (1 + length ends)) children ++ levels_of_rows inner n (rows_of rest ++ more)) e1
    ∙ ap (λ l. levels_of (1 + (1 + length ends)) children ++ l) (levels_of_rows-ended ends (number + size) (rows_of rest ++ more) ∙ after
    ∙ ap (λ n. levels_of (1 + length ends) rest ++ levels_of_rows ends n more) e2)
    ∙ sym (append_assoc (levels_of (1 + (1 + length ends)) children) (levels_of (1 + length ends) rest) (levels_of_rows ends (number + nodes (Tree rule start end children rest)) more)))

-- the levels of the node list of trees
pub levels_of_rows-rows_of : (trees : Trees) → levels_of_rows [] 0 (rows_of trees) ≡ levels_of 1 trees
levels_of_rows-rows_of trees =
    ap (levels_of_rows [] 0) (sym (append-nil (rows_of trees)))
    ∙ levels_of_rows-append trees [] 0 [] tt
    ∙ append-nil (levels_of 1 trees)

-- one more node: its level is one more than the number of open nodes
pub levels_of_rows-more : (rows : List TreeNode) (at : ℕ) (node : TreeNode) (within : at < length rows) (is : node ≡ get_or rows at node)
    (ends kept more : List ℕ) (levels new whole : List ℕ) (count : ℕ)
    → reverse kept ≡ open_at at (reverse ends) → count ≡ length kept
    → more ≡ kept ++ (at + node.size) ∷ [] → new ≡ levels ++ (1 + count) ∷ []
    → levels ++ levels_of_rows (reverse ends) at (map row_of (drop at rows)) ≡ whole
    → new ++ levels_of_rows (reverse more) (at + 1) (map row_of (drop (at + 1) rows)) ≡ whole
levels_of_rows-more rows at node within is ends kept more levels new whole count closed counted pushed added same =
    let rest = map row_of (drop (at + 1) rows) in
    let last : reverse more ≡ (at + node.size) ∷ open_at at (reverse ends) =
    ap reverse pushed ∙ reverse-append kept ((at + node.size) ∷ []) ∙ ap (λ l. (at + node.size) ∷ l) closed in
    let level : 1 + count ≡ 1 + length (open_at at (reverse ends)) =
    ap (λ n. 1 + n) (counted ∙ sym (length-reverse kept) ∙ ap length closed) in
    let row = rows_from rows at node within is in
    ap (λ l. l ++ levels_of_rows (reverse more) (at + 1) rest) added
    ∙ append_assoc levels ((1 + count) ∷ []) (levels_of_rows (reverse more) (at + 1) rest)
    ∙ ap (λ n. levels ++ n ∷ levels_of_rows (reverse more) (at + 1) rest) level
    ∙ ap (λ l. levels ++ (1 + length (open_at at (reverse ends))) ∷ levels_of_rows l (at + 1) rest) last
    ∙ ap (λ l. levels ++ levels_of_rows (reverse ends) at l) (sym row)
    ∙ same
