-- The nodes of trees in a run that shows some rules.
use Rattle.std.proofs.Common.{◌≡◌, ◌≢◌, ℕ, ◌+◌, All, Bool, true, false, List, [], ◌∷◌, ◌++◌, length, refl, sym, ◌∙◌, ap}
use Rattle.std.proofs.Common.{append_assoc, append-nil, arith, length-append}
use Rattle.std.proofs.lemmas.Bool.{cond-false, cond-true}
use Rattle.std.proofs.lemmas.List.Elements.{All-append, All-cons, All-nil}
use Rattle.peg_tree.specs.Rows.{Row, rows_of}
use Rattle.peg_tree.specs.Selected.{selected_among}
use Rattle.peg_tree.specs.Trees.{Trees, NoTrees, Tree, followed_by, nodes}
use Rattle.peg_semantics.specs.Record.{RuleCall}
use Rattle.peg_runs.specs.OpenRows.{open_row, own_rows, root_rows}
use Rattle.peg_runs.specs.ShownRows.{shown_rows, Shown}

-- by whether a rule is shown
pub by_answer : {P : Type 0} (b : Bool) → (b ≡ true → P) → (b ≡ false → P) → P
by_answer true p q = p refl
by_answer false p q = q refl

-- ---- trees one after the other

pub followed_by-nothing : (trees : Trees) → followed_by trees NoTrees ≡ trees
followed_by-nothing NoTrees = refl
followed_by-nothing (Tree rule start end children rest) = ap (Tree rule start end children) (followed_by-nothing rest)

followed_by_assoc : (first second third : Trees)
    → followed_by (followed_by first second) third ≡ followed_by first (followed_by second third)
followed_by_assoc NoTrees second third = refl
followed_by_assoc (Tree rule start end children rest) second third =
    ap (Tree rule start end children) (followed_by_assoc rest second third)

-- the nodes of concatenated trees
rows_of-followed_by : (trees more : Trees) → rows_of (followed_by trees more) ≡ rows_of trees ++ rows_of more
rows_of-followed_by NoTrees more = refl
rows_of-followed_by (Tree rule start end children rest) more =
    ap (λ rows. record { rule = rule; start = start; end = end; size = 1 + nodes children } ∷ rows)
    (ap (λ rows. rows_of children ++ rows) (rows_of-followed_by rest more)
    ∙ sym (append_assoc (rows_of children) (rows_of rest) (rows_of more)))

-- the list has one entry for each node of the trees
pub length-rows_of : (trees : Trees) → length (rows_of trees) ≡ nodes trees
length-rows_of NoTrees = refl
length-rows_of (Tree rule start end children rest) =
    omega (arith, length-append (rows_of children) (rows_of rest), length-rows_of children, length-rows_of rest)

-- the nodes of trees are closed
closed-trees : (trees : Trees) → All (λ (row : Row). row.size ≢ 0) (rows_of trees)
closed-trees NoTrees = All-nil (λ (row : Row). row.size ≢ 0)
closed-trees (Tree rule start end children rest) =
    All-cons (λ (row : Row). row.size ≢ 0) _ (rows_of children ++ rows_of rest)
    (λ none. let zero : 1 + nodes children ≡ 0 = none in absurd (omega arith))
    (All-append (λ (row : Row). row.size ≢ 0) (rows_of children) (rows_of rest) (closed-trees children) (closed-trees rest))

-- ---- those of rules that are shown

module _ (shown : Shown) where
  -- one tree and those after it, by whether the root is shown
  shown-root : (rule start end : ℕ) (children rest : Trees) → shown rule ≡ true
      → selected_among shown (Tree rule start end children rest)
      ≡ Tree rule start end (selected_among shown children) (selected_among shown rest)
  shown-root rule start end children rest is =
      cond-true (shown rule) (Tree rule start end (selected_among shown children) (selected_among shown rest))
      (followed_by (selected_among shown children) (selected_among shown rest)) is

  hidden-root : (rule start end : ℕ) (children rest : Trees) → shown rule ≡ false
      → selected_among shown (Tree rule start end children rest)
      ≡ followed_by (selected_among shown children) (selected_among shown rest)
  hidden-root rule start end children rest is =
      cond-false (shown rule) (Tree rule start end (selected_among shown children) (selected_among shown rest))
      (followed_by (selected_among shown children) (selected_among shown rest)) is

  selected_among-followed_by : (trees more : Trees)
      → selected_among shown (followed_by trees more) ≡ followed_by (selected_among shown trees) (selected_among shown more)
  selected_among-followed_by NoTrees more = refl
  selected_among-followed_by (Tree rule start end children rest) more =
      let both = selected_among-followed_by rest more in
      by_answer (shown rule)
      (λ is.
      shown-root rule start end children (followed_by rest more) is
      ∙ ap (Tree rule start end (selected_among shown children)) both
      ∙ sym (ap (λ (trees : Trees). followed_by trees (selected_among shown more)) (shown-root rule start end children rest is)))
      (λ is.
      hidden-root rule start end children (followed_by rest more) is
      ∙ ap (followed_by (selected_among shown children)) both
      ∙ sym (followed_by_assoc (selected_among shown children) (selected_among shown rest) (selected_among shown more))
      ∙ sym (ap (λ (trees : Trees). followed_by trees (selected_among shown more)) (hidden-root rule start end children rest is)))

  -- the nodes of concatenated trees
  pub shown_rows-followed_by : (trees more : Trees)
      → shown_rows shown (followed_by trees more) ≡ shown_rows shown trees ++ shown_rows shown more
  shown_rows-followed_by trees more =
      ap rows_of (selected_among-followed_by trees more)
      ∙ rows_of-followed_by (selected_among shown trees) (selected_among shown more)

  -- the nodes of trees are closed
  pub closed-rows : (trees : Trees) → All (λ (row : Row). row.size ≢ 0) (shown_rows shown trees)
  closed-rows trees = closed-trees (selected_among shown trees)

  -- the nodes of one tree: its root's, if that is shown, and those of its children
  pub shown_rows-shown : (rule start end : ℕ) (children : Trees) → shown rule ≡ true
      → shown_rows shown (Tree rule start end children NoTrees)
      ≡ record { rule = rule; start = start; end = end; size = 1 + length (shown_rows shown children) }
      ∷ shown_rows shown children
  shown_rows-shown rule start end children is =
      let inner = selected_among shown children in
      ap rows_of (shown-root rule start end children NoTrees is)
      ∙ ap (λ (n : ℕ). record { rule = rule; start = start; end = end; size = 1 + n } ∷ (rows_of inner ++ []))
      (sym (length-rows_of inner))
      ∙ ap (λ (rows : List Row).
      record { rule = rule; start = start; end = end; size = 1 + length (rows_of inner) } ∷ rows) (append-nil (rows_of inner))

  pub shown_rows-hidden : (rule start end : ℕ) (children : Trees) → shown rule ≡ false
      → shown_rows shown (Tree rule start end children NoTrees) ≡ shown_rows shown children
  shown_rows-hidden rule start end children is =
      ap rows_of (hidden-root rule start end children NoTrees is ∙ followed_by-nothing (selected_among shown children))

  -- a call's own node, by whether its rule is shown
  pub own_rows-shown : (pair : RuleCall) → shown pair.rule ≡ true → own_rows shown pair ≡ open_row pair ∷ []
  own_rows-shown pair is = cond-true (shown pair.rule) (open_row pair ∷ []) [] is

  pub own_rows-hidden : (pair : RuleCall) → shown pair.rule ≡ false → own_rows shown pair ≡ []
  own_rows-hidden pair is = cond-false (shown pair.rule) (open_row pair ∷ []) [] is

  pub root_rows-shown : (start : RuleCall) → shown start.rule ≡ true → root_rows shown start ≡ []
  root_rows-shown start is = cond-true (shown start.rule) [] (open_row start ∷ []) is

  pub root_rows-hidden : (start : RuleCall) → shown start.rule ≡ false → root_rows shown start ≡ open_row start ∷ []
  root_rows-hidden start is = cond-false (shown start.rule) [] (open_row start ∷ []) is

-- ---- all rules

-- if all rules are shown, the trees stay
pub selected_among-all : (trees : Trees) → selected_among (λ _. true) trees ≡ trees
selected_among-all NoTrees = refl
selected_among-all (Tree rule start end children rest) =
    ap (λ (inner : Trees). Tree rule start end inner (selected_among (λ _. true) rest)) (selected_among-all children)
    ∙ ap (Tree rule start end children) (selected_among-all rest)
