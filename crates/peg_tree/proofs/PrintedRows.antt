-- The nodes that are printed of a tree's node list are those of the selected tree.
use Rattle.std.proofs.Common.{◌≡◌, ℕ, ◌+◌, ◌<◌, ◌≤◌, ◌==◌, ◌||◌, Bool, true, false, List, [], ◌∷◌, ◌++◌, length, map, max, if◌then◌else◌, refl, sym, ◌∙◌, ap, arith, append_assoc, append-nil}
use Rattle.std.proofs.lemmas.Bool.{cond-true, cond-false, le-leb, ne_eqb}
use Rattle.std.proofs.lemmas.List.{map-append}
use Rattle.serde_json.specs.Data.{Data}
use Rattle.peg_tree.specs.Json.{row_data, rows_data}
use Rattle.peg_tree.specs.Levels.{levels_of, open_at}
use Rattle.peg_tree.specs.Names.{name_at}
use Rattle.peg_tree.specs.RowText.{PrintedRow, printed_levels, printed_row, printed_rows}
use Rattle.peg_tree.specs.Rows.{Row, rows_of}
use Rattle.peg_tree.specs.Selected.{selected, selected_among}
use Rattle.peg_tree.specs.Trees.{Trees, NoTrees, Tree, followed_by, levels, nodes}
use Rattle.peg_tree.proofs.LevelRows.{Reaches, Reaches-same, open_at-same}

-- what is printed of trees whose roots have the given level
abbrev pub printed_trees : ℕ → Trees → List PrintedRow
printed_trees level NoTrees = []
printed_trees level (Tree rule start end children rest) =
    record { level = level; rule = rule; start = start; end = end }
    ∷ (printed_trees (1 + level) children ++ printed_trees level rest)

printed_trees-followed_by : (level : ℕ) (trees more : Trees)
    → printed_trees level (followed_by trees more) ≡ printed_trees level trees ++ printed_trees level more
printed_trees-followed_by level NoTrees more = refl
printed_trees-followed_by level (Tree rule start end children rest) more =
    ap (λ (l : List PrintedRow). record { level = level; rule = rule; start = start; end = end } ∷ l)
    (ap (λ l. printed_trees (1 + level) children ++ l) (printed_trees-followed_by level rest more)
    ∙ sym (append_assoc (printed_trees (1 + level) children) (printed_trees level rest) (printed_trees level more)))

-- their levels
pub levels-printed_trees : (level : ℕ) (trees : Trees)
    → printed_levels (printed_trees level trees) ≡ levels_of level trees
levels-printed_trees level NoTrees = refl
levels-printed_trees level (Tree rule start end children rest) =
    ap (λ l. level ∷ l) (
    map-append (λ (row : PrintedRow). row.level) (printed_trees (1 + level) children) (printed_trees level rest)
    ∙ ap (λ l. l ++ printed_levels (printed_trees level rest)) (levels-printed_trees (1 + level) children)
    ∙ ap (λ l. levels_of (1 + level) children ++ l) (levels-printed_trees level rest))

-- their JSON
abbrev pub printed_data : List (List ℕ) → PrintedRow → Data
printed_data names row = row_data row.level (name_at names row.rule) row.start row.end

pub data-printed_trees : (names : List (List ℕ)) (level : ℕ) (trees : Trees)
    → map (printed_data names) (printed_trees level trees) ≡ rows_data names level trees
data-printed_trees names level NoTrees = refl
data-printed_trees names level (Tree rule start end children rest) =
    ap (λ (l : List Data). row_data level (name_at names rule) start end ∷ l)
    (map-append (printed_data names) (printed_trees (1 + level) children) (printed_trees level rest)
    ∙ ap (λ l. l ++ map (printed_data names) (printed_trees level rest)) (data-printed_trees names (1 + level) children)
    ∙ ap (λ l. rows_data names (1 + level) children ++ l) (data-printed_trees names level rest))

-- an end that is reached later is not reached yet
Reaches-less : (ends : List ℕ) (high low : ℕ) → low ≤ high → Reaches ends high → Reaches ends low
Reaches-less [] high low less reaches = tt
Reaches-less (end ∷ ends) high low less reaches = omega arith

module _ (shown : ℕ → Bool) where
  -- a node that is shown, and one that is not
  pub printed_rows-shown : (ends : List ℕ) (number : ℕ) (row : Row) (rows : List Row)
      → ((number == 0) || shown row.rule) ≡ true
      → printed_rows shown ends number (row ∷ rows) ≡ printed_row (1 + length (open_at number ends)) row
      ∷ printed_rows shown ((number + row.size) ∷ open_at number ends) (number + 1) rows
  printed_rows-shown ends number row rows is = cond-true _ _ _ is

  pub printed_rows-hidden : (ends : List ℕ) (number : ℕ) (row : Row) (rows : List Row)
      → ((number == 0) || shown row.rule) ≡ false
      → printed_rows shown ends number (row ∷ rows) ≡ printed_rows shown ends (number + 1) rows
  printed_rows-hidden ends number row rows is = cond-false _ _ _ is

  -- after the root, only the rule counts
  after-root : (number : ℕ) (rule : ℕ) → 0 < number → ((number == 0) || shown rule) ≡ shown rule
  after-root number rule later = ap (λ b. b || shown rule) (ne_eqb number 0 (omega arith))

  -- an end that has been reached does not count
  printed_rows-ended : (end : ℕ) (ends : List ℕ) (number : ℕ) (rows : List Row) → end ≤ number
      → printed_rows shown (end ∷ ends) number rows ≡ printed_rows shown ends number rows
  printed_rows-ended end ends number [] over = refl
  printed_rows-ended end ends number (row ∷ rows) over =
      let here = (number == 0) || shown row.rule in
      let closed : open_at number (end ∷ ends) ≡ open_at number ends = cond-true _ _ _ (le-leb end number over) in
      ap (λ still. if here then printed_row (1 + length still) row
      ∷ printed_rows shown ((number + row.size) ∷ still) (number + 1) rows
      else printed_rows shown (end ∷ ends) (number + 1) rows) closed
      ∙ ap (λ l. if here then printed_row (1 + length (open_at number ends)) row
      ∷ printed_rows shown ((number + row.size) ∷ open_at number ends) (number + 1) rows else l)
      (printed_rows-ended end ends (number + 1) rows (omega arith))

  -- what is printed of trees below the open nodes, and of the nodes after them
  abbrev Appends : (trees : Trees) (ends : List ℕ) (number : ℕ) (more : List Row) → Type 0
  Appends trees ends number more =
      printed_rows shown ends number (rows_of trees ++ more)
      ≡ printed_trees (1 + length ends) (selected_among shown trees)
      ++ printed_rows shown ends (number + nodes trees) more

  -- the same of a tree and of the trees after it, given that it holds of its children and of the trees after it
  append-tree : (rule start end : ℕ) (children rest : Trees) (ends : List ℕ) (number : ℕ) (more : List Row) → 0 < number
      → Reaches ends (number + nodes (Tree rule start end children rest))
      → ((inner : List ℕ) → Reaches inner (number + 1 + nodes children)
      → Appends children inner (number + 1) (rows_of rest ++ more))
      → Appends rest ends (number + (1 + nodes children)) more
      → (b : Bool) → shown rule ≡ b → Appends (Tree rule start end children rest) ends number more
  append-tree rule start end children rest ends number more later reaches below after = by
    where
      size : ℕ
      size = 1 + nodes children

      row : Row
      row = record { rule = rule; start = start; end = end; size = 1 + nodes children }

      last : ℕ
      last = number + nodes (Tree rule start end children rest)

      level : ℕ
      level = 1 + length ends

      others : printed_rows shown ends (number + size) (rows_of rest ++ more)
          ≡ printed_trees level (selected_among shown rest) ++ printed_rows shown ends last more
      others =
          let e : number + size + nodes rest ≡ last = omega arith in
          after ∙ ap (λ n. printed_trees level (selected_among shown rest) ++ printed_rows shown ends n more) e

      inside : (inner : List ℕ) → Reaches inner (number + 1 + nodes children)
          → printed_rows shown inner (number + 1) ((rows_of children ++ rows_of rest) ++ more)
          ≡ printed_trees (1 + length inner) (selected_among shown children)
          ++ printed_rows shown inner (number + size) (rows_of rest ++ more)
      inside inner over =
          let e : number + 1 + nodes children ≡ number + size = omega arith in
          ap (printed_rows shown inner (number + 1)) (append_assoc (rows_of children) (rows_of rest) more)
          ∙ below inner over
          ∙ ap (λ n. printed_trees (1 + length inner) (selected_among shown children)
          ++ printed_rows shown inner n (rows_of rest ++ more)) e

      by : (b : Bool) → shown rule ≡ b → Appends (Tree rule start end children rest) ends number more
      by true is =
          let same = open_at-same ends number last reaches (omega arith) in
          let inner = (number + size) ∷ ends in
          let tail = (rows_of children ++ rows_of rest) ++ more in
          let chosen = cond-true (shown rule)
          (Tree rule start end (selected_among shown children) (selected_among shown rest))
          (followed_by (selected_among shown children) (selected_among shown rest)) is in
          let reach : number + 1 + nodes children ≤ number + size = omega arith in
          let deeper : 1 + length inner ≡ 1 + level = omega arith in
          printed_rows-shown ends number row tail (after-root number rule later ∙ is)
          ∙ ap (λ still. printed_row (1 + length still) row
          ∷ printed_rows shown ((number + size) ∷ still) (number + 1) tail) same
          ∙ ap (λ l. printed_row level row ∷ l) (inside inner reach
          ∙ ap (λ n. printed_trees n (selected_among shown children)
          ++ printed_rows shown inner (number + size) (rows_of rest ++ more)) deeper
          ∙ ap (λ l. printed_trees (1 + level) (selected_among shown children) ++ l)
          (printed_rows-ended (number + size) ends (number + size) (rows_of rest ++ more) (omega arith) ∙ others)
          ∙ sym (append_assoc (printed_trees (1 + level) (selected_among shown children))
          (printed_trees level (selected_among shown rest)) (printed_rows shown ends last more)))
          ∙ ap (λ trees. printed_trees level trees ++ printed_rows shown ends last more) (sym chosen)
      by false is =
          let tail = (rows_of children ++ rows_of rest) ++ more in
          let chosen = cond-false (shown rule)
          (Tree rule start end (selected_among shown children) (selected_among shown rest))
          (followed_by (selected_among shown children) (selected_among shown rest)) is in
          printed_rows-hidden ends number row tail (after-root number rule later ∙ is)
          ∙ inside ends (Reaches-less ends last (number + 1 + nodes children) (omega arith) reaches)
          ∙ ap (λ l. printed_trees level (selected_among shown children) ++ l) others
          ∙ sym (append_assoc (printed_trees level (selected_among shown children))
          (printed_trees level (selected_among shown rest)) (printed_rows shown ends last more))
          ∙ ap (λ l. l ++ printed_rows shown ends last more)
          (sym (printed_trees-followed_by level (selected_among shown children) (selected_among shown rest)))
          ∙ ap (λ trees. printed_trees level trees ++ printed_rows shown ends last more) (sym chosen)

  printed_rows-append : (trees : Trees) (ends : List ℕ) (number : ℕ) (more : List Row) → 0 < number
      → Reaches ends (number + nodes trees) → Appends trees ends number more
  printed_rows-append NoTrees ends number more later reaches =
      (let e : number ≡ number + 0 = omega arith in ap (λ n. printed_rows shown ends n more) e)
  printed_rows-append (Tree rule start end children rest) ends number more later reaches =
      let last = number + nodes (Tree rule start end children rest) in
      let e : last ≡ number + (1 + nodes children) + nodes rest = omega arith in
      append-tree rule start end children rest ends number more later reaches
      (λ inner over. printed_rows-append children inner (number + 1) (rows_of rest ++ more) (omega arith) over)
      (printed_rows-append rest ends (number + (1 + nodes children)) more (omega arith)
      (Reaches-same ends last (number + (1 + nodes children) + nodes rest) e reaches)) (shown rule) refl

  -- what is printed of a node list is the selected tree
  pub printed_rows-selected : (trees : Trees)
      → printed_rows shown [] 0 (rows_of trees) ≡ printed_trees 1 (selected shown trees)
  printed_rows-selected NoTrees = refl
  printed_rows-selected (Tree rule start end children rest) =
      let size = 1 + nodes children in
      let inner = (0 + size) ∷ [] in
      let reach : 1 + nodes children ≤ 0 + size = omega arith in
      ap (λ (l : List PrintedRow). record { level = 1; rule = rule; start = start; end = end } ∷ l)
      (printed_rows-append children inner 1 (rows_of rest) (omega arith) reach
      ∙ ap (λ l. printed_trees 2 (selected_among shown children) ++ l)
      (printed_rows-ended (0 + size) [] size (rows_of rest) (omega arith)
      ∙ ap (printed_rows shown [] size) (sym (append-nil (rows_of rest)))
      ∙ printed_rows-append rest [] size [] (omega arith) tt
      ∙ append-nil (printed_trees 1 (selected_among shown rest))))

-- a selected tree has no more levels than the tree
levels-followed_by : (trees more : Trees) → levels (followed_by trees more) ≤ max (levels trees) (levels more)
levels-followed_by NoTrees more = omega arith
levels-followed_by (Tree rule start end children rest) more = omega (arith, levels-followed_by rest more)

levels-selected_among : (shown : ℕ → Bool) (trees : Trees) → levels (selected_among shown trees) ≤ levels trees
levels-selected_among shown NoTrees = omega arith
levels-selected_among shown (Tree rule start end children rest) =
    by (shown rule) (levels-selected_among shown children) (levels-selected_among shown rest)
  where
    by : (b : Bool) → levels (selected_among shown children) ≤ levels children
        → levels (selected_among shown rest) ≤ levels rest
        → levels (if b then Tree rule start end (selected_among shown children) (selected_among shown rest)
        else followed_by (selected_among shown children) (selected_among shown rest))
        ≤ levels (Tree rule start end children rest)
    by true below after = omega arith
    by false below after = omega (arith, levels-followed_by (selected_among shown children) (selected_among shown rest))

pub levels-selected : (shown : ℕ → Bool) (trees : Trees) → levels (selected shown trees) ≤ levels trees
levels-selected shown NoTrees = omega arith
levels-selected shown (Tree rule start end children rest) =
    omega (arith, levels-selected_among shown children, levels-selected_among shown rest)
