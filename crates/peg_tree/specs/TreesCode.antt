-- Describes code: an encoding of trees by their node lists. The proof that a node list determines its trees is here,
-- since a definition cannot cite proofs/.
use Rattle.std.specs.Prelude.{◌≡◌, ℕ, ◌+◌, ◌-◌, List, [], ◌++◌}
use Rattle.std.proofs.Common.{refl, sym, ◌∙◌, ap, arith, append-nil, append_assoc}
use Rattle.std.proofs.lemmas.Bool.{cond-true, cond-false, le-leb, lt-leb}
use Rattle.std.specs.Coded.{Coded, code_by, coded×, coded_ℕ, coded_list}
use Rattle.peg_tree.specs.Rows.{Row, rows_of}
use Rattle.peg_tree.specs.Trees.{Trees, NoTrees, Tree, nodes, followed_by}
use Rattle.peg_tree.specs.TreesOfRows.{first_trees, trees_after, trees_of}

pub first_trees-none : (trees : Trees) → first_trees 0 trees ≡ NoTrees
first_trees-none NoTrees = refl
first_trees-none (Tree rule start end children rest) = cond-false _ _ _ (lt-leb (1 + nodes children) 0 (omega arith))

pub trees_after-none : (trees : Trees) → trees_after 0 trees ≡ trees
trees_after-none NoTrees = refl
trees_after-none (Tree rule start end children rest) = cond-false _ _ _ (lt-leb (1 + nodes children) 0 (omega arith))

-- of one list of trees followed by another, the first `nodes trees` nodes are the first list
pub first_trees-followed_by : (trees more : Trees) → first_trees (nodes trees) (followed_by trees more) ≡ trees
first_trees-followed_by NoTrees more = first_trees-none more
first_trees-followed_by (Tree rule start end children rest) more =
    let less : (1 + nodes children + nodes rest) - (1 + nodes children) ≡ nodes rest = omega arith in
    cond-true _ _ _ (le-leb (1 + nodes children) (1 + nodes children + nodes rest) (omega arith))
    ∙ ap (λ n. Tree rule start end children (first_trees n (followed_by rest more))) less
    ∙ ap (Tree rule start end children) (first_trees-followed_by rest more)

pub trees_after-followed_by : (trees more : Trees) → trees_after (nodes trees) (followed_by trees more) ≡ more
trees_after-followed_by NoTrees more = trees_after-none more
trees_after-followed_by (Tree rule start end children rest) more =
    let less : (1 + nodes children + nodes rest) - (1 + nodes children) ≡ nodes rest = omega arith in
    cond-true _ _ _ (le-leb (1 + nodes children) (1 + nodes children + nodes rest) (omega arith))
    ∙ ap (λ n. trees_after n (followed_by rest more)) less
    ∙ trees_after-followed_by rest more

pub followed_by-none : (trees : Trees) → followed_by trees NoTrees ≡ trees
followed_by-none NoTrees = refl
followed_by-none (Tree rule start end children rest) = ap (Tree rule start end children) (followed_by-none rest)

-- the node list of trees, followed by other nodes, denotes those trees followed by the other trees
pub trees_of-append : (trees : Trees) (rows : List Row)
    → trees_of (rows_of trees ++ rows) ≡ followed_by trees (trees_of rows)
trees_of-append NoTrees rows = refl
trees_of-append (Tree rule start end children rest) rows =
    let size : 1 + nodes children - 1 ≡ nodes children = omega arith in
    let beside = followed_by rest (trees_of rows) in
    let below : trees_of (rows_of children ++ rows_of rest ++ rows) ≡ followed_by children beside =
    ap trees_of (append_assoc (rows_of children) (rows_of rest) rows)
    ∙ trees_of-append children (rows_of rest ++ rows)
    ∙ ap (followed_by children) (trees_of-append rest rows) in
    let all = followed_by children beside in
    ap (λ trees. Tree rule start end (first_trees (1 + nodes children - 1) trees)
    (trees_after (1 + nodes children - 1) trees)) below
    ∙ ap (λ n. Tree rule start end (first_trees n all) (trees_after n all)) size
    ∙ ap (λ trees. Tree rule start end trees (trees_after (nodes children) all))
    (first_trees-followed_by children beside)
    ∙ ap (Tree rule start end children) (trees_after-followed_by children beside)

-- the node list of trees denotes those trees
pub trees_of-rows_of : (trees : Trees) → trees_of (rows_of trees) ≡ trees
trees_of-rows_of trees =
    ap trees_of (sym (append-nil (rows_of trees))) ∙ trees_of-append trees [] ∙ followed_by-none trees

-- a node as a tuple of its numbers
abbrev pub row_code : Coded Row
row_code =
    code_by (ℕ × (ℕ × (ℕ × ℕ))) (coded× coded_ℕ (coded× coded_ℕ (coded× coded_ℕ coded_ℕ)))
    (λ row. (row.rule, (row.start, (row.end, row.size))))
    (λ p. record { rule = p.0; start = p.1.0; end = p.1.1.0; size = p.1.1.1 }) (λ _. refl)

-- trees are encoded by their node lists
abbrev pub trees_code : Coded Trees
trees_code = code_by (List Row) (coded_list row_code) rows_of trees_of trees_of-rows_of
