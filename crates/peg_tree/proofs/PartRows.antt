-- Splitting parts of a node list.
use Rattle.std.proofs.Common.{◌≡◌, ℕ, zero, suc, ◌+◌, ◌-◌, ◌*◌, ◌^◌, ◌<◌, ◌≤◌, ◌⊎◌, inl, inr, List, [], ◌∷◌, ◌++◌, length, drop, take, get_or, map, max, refl, subst, sym, ◌∙◌, ap, arith}
use Rattle.std.proofs.lemmas.List.{drop_more, drop-map, drop-drop, drop-take, take-take, take_at, drop_at, take_all, length-append, length_push, length-take, length-drop, length-map}
use Rattle.std.proofs.Math.Nat.{pow-suc}
use Rattle.peg_tree.specs.declared.part.Part.{Part}
use Rattle.peg_tree.specs.declared.row.TreeNode.{TreeNode}
use Rattle.peg_tree.specs.Parts.{rows_in, part_length, IsPart, AreParts, greatest_level, level_in, level_of_parts, length_of_parts}
use Rattle.peg_tree.specs.Rows.{Row, row_of, rows_of, IsOneTree}
use Rattle.peg_tree.specs.Trees.{Trees, NoTrees, Tree, nodes, levels}
use Rattle.peg_tree.specs.TreesOfRows.{trees_of, first_trees, trees_after, IsForest}
use Rattle.peg_tree.specs.TreesCode.{trees_of-rows_of}
use Rattle.peg_tree.proofs.Forests.{length-rows_of, IsForest-rows_of, IsForest-size, IsForest-from_one_tree}

-- the number of levels of trees, raised by `more`
abbrev raised : ℕ → Trees → ℕ
raised more NoTrees = 0
raised more (Tree rule start end children rest) = more + levels (Tree rule start end children rest)

raised-cases : (more : ℕ) (trees : Trees) → ((raised more trees ≡ 0) × (levels trees ≡ 0)) ⊎ (raised more trees ≡ more + levels trees)
raised-cases more NoTrees = inl (refl, refl)
raised-cases more (Tree rule start end children rest) = inr refl

raised-max : (more below beside levels_below levels_beside : ℕ)
    → ((below ≡ 0) × (levels_below ≡ 0)) ⊎ (below ≡ 1 + more + levels_below)
    → ((beside ≡ 0) × (levels_beside ≡ 0)) ⊎ (beside ≡ more + levels_beside)
    → max (1 + more) (max below beside) ≡ more + max (1 + levels_below) levels_beside
raised-max more below beside m n (inl h) (inl k) = let a = h.0 in let b = h.1 in let c = k.0 in let d = k.1 in omega arith
raised-max more below beside m n (inl h) (inr k) = let a = h.0 in let b = h.1 in omega arith
raised-max more below beside m n (inr h) (inl k) = let c = k.0 in let d = k.1 in omega arith
raised-max more below beside m n (inr h) (inr k) = omega arith

greatest_level-raised : (more : ℕ) (trees : Trees) → greatest_level (1 + more) trees ≡ raised more trees
greatest_level-raised more NoTrees = refl
greatest_level-raised more (Tree rule start end children rest) =
    let deeper : 1 + more + 1 ≡ 1 + (1 + more) = omega arith in
    ap (λ n. max (1 + more) (max (greatest_level n children) (greatest_level (1 + more) rest))) deeper
    ∙ ap (λ n. max (1 + more) (max n (greatest_level (1 + more) rest))) (greatest_level-raised (1 + more) children)
    ∙ ap (λ n. max (1 + more) (max (raised (1 + more) children) n)) (greatest_level-raised more rest)
    ∙ raised-max more (raised (1 + more) children) (raised more rest) (levels children) (levels rest) (raised-cases (1 + more) children) (raised-cases more rest)

-- if the roots have level 1, the greatest level is the number of levels
pub greatest_level-levels : (trees : Trees) → greatest_level 1 trees ≡ levels trees
greatest_level-levels trees =
    greatest_level-raised 0 trees ∙ elim (raised-cases 0 trees) [ inl h ↦ h.0 ∙ sym h.1 | inr h ↦ (let e : raised 0 trees ≡ levels trees = omega arith in e) ]

-- the whole node list of one tree, as a part
abbrev pub whole : List TreeNode → Part
whole rows = record { from = 0; to = length rows; level = 1 }

rows_in-whole : (rows : List TreeNode) → rows_in (map row_of rows) (whole rows) ≡ map row_of rows
rows_in-whole rows = take_all (length rows - 0) (map row_of rows) (omega (arith, length-map rows row_of))

pub whole_are_parts : (rows : List TreeNode) → IsOneTree (map row_of rows) → length rows < 2 ^ 64 → AreParts (map row_of rows) 64 (whole rows ∷ [])
whole_are_parts rows one few = (
  record {
    ordered = omega arith;
    within = omega (arith, length-map rows row_of);
    high = omega (arith, length-map rows row_of);
    forest = subst IsForest (sym (rows_in-whole rows)) (IsForest-from_one_tree (map row_of rows) one);
  },
  omega arith,
  tt,
)

pub whole_level : (rows : List TreeNode) → IsOneTree (map row_of rows)
    → max 0 (level_of_parts (map row_of rows) (whole rows ∷ [])) ≡ levels (trees_of (map row_of rows))
whole_level rows one =
    let level : level_in (map row_of rows) (whole rows) ≡ levels (trees_of (map row_of rows)) =
    ap (λ l. greatest_level 1 (trees_of l)) (rows_in-whole rows) ∙ greatest_level-levels (trees_of (map row_of rows)) in
    omega arith

max-swap : (a b : ℕ) → max a b ≡ max b a
max-swap a b = omega arith

-- a nonempty part and its first node
module _ (rows : List TreeNode) (part : Part) (is_part : IsPart (map row_of rows) part) (some : part.from < part.to)
    (root : TreeNode) (is : root ≡ get_or rows part.from root) where
  in_rows : part.from < length rows
  in_rows = omega (arith, is_part.within, length-map rows row_of)

  opened : rows_in (map row_of rows) part ≡ row_of root ∷ take (part.to - part.from - 1) (drop (part.from + 1) (map row_of rows))
  opened =
      let first : drop part.from (map row_of rows) ≡ row_of root ∷ drop (part.from + 1) (map row_of rows) =
      drop-map row_of part.from rows ∙ ap (map row_of) (drop_more rows part.from root in_rows)
      ∙ ap (λ n. row_of n ∷ map row_of (drop (part.from + 1) rows)) (sym is)
      ∙ ap (λ l. row_of root ∷ l) (sym (drop-map row_of (part.from + 1) rows)) in
      let more : part.to - part.from ≡ suc (part.to - part.from - 1) = omega arith in
      ap (take (part.to - part.from)) first ∙ ap (λ n. take n (row_of root ∷ drop (part.from + 1) (map row_of rows))) more

  forest : IsForest (row_of root ∷ take (part.to - part.from - 1) (drop (part.from + 1) (map row_of rows)))
  forest = subst IsForest opened is_part.forest

  abbrev below : Trees
  below = first_trees (root.size - 1) (trees_of (take (part.to - part.from - 1) (drop (part.from + 1) (map row_of rows))))

  abbrev beside : Trees
  beside = trees_after (root.size - 1) (trees_of (take (part.to - part.from - 1) (drop (part.from + 1) (map row_of rows))))

  tail : rows_of below ++ rows_of beside ≡ take (part.to - part.from - 1) (drop (part.from + 1) (map row_of rows))
  tail = ap (drop 1) forest

  size : 1 + nodes below ≡ root.size
  size = IsForest-size (row_of root) (take (part.to - part.from - 1) (drop (part.from + 1) (map row_of rows))) forest

  count : nodes below + nodes beside ≡ part.to - part.from - 1
  count =
      let joined = ap length tail in
      let both = length-append (rows_of below) (rows_of beside) in
      let here = length-take (part.to - part.from - 1) (drop (part.from + 1) (map row_of rows)) in
      let there = length-drop (part.from + 1) (map row_of rows) in
      omega (arith, length-rows_of below, length-rows_of beside, is_part.within)

  -- the first tree ends within the part
  pub middle_within : part.from + root.size ≤ part.to
  middle_within = omega (arith, size, count)

  pub middle_fits : part.from + root.size ≤ length rows
  middle_fits = omega (arith, middle_within, is_part.within, length-map rows row_of)

  pub size_some : 0 < root.size
  size_some = omega (arith, size)

  -- the children of the first tree, and the trees after it, as parts
  abbrev pub children_part : Part
  children_part = record { from = part.from + 1; to = part.from + root.size; level = part.level + 1 }

  abbrev pub rest_part : Part
  rest_part = record { from = part.from + root.size; to = part.to; level = part.level }

  children_rows : rows_in (map row_of rows) children_part ≡ rows_of below
  children_rows =
      let few : part.from + root.size - (part.from + 1) ≡ nodes below = omega (arith, size) in
      let all = drop (part.from + 1) (map row_of rows) in
      ap (λ n. take n all) few
      ∙ sym (take-take (nodes below) (part.to - part.from - 1) all (omega (arith, count)))
      ∙ ap (take (nodes below)) (sym tail)
      ∙ take_at (rows_of below) (rows_of beside) (nodes below) (length-rows_of below)

  rest_rows : rows_in (map row_of rows) rest_part ≡ rows_of beside
  rest_rows =
      let all = drop (part.from + 1) (map row_of rows) in
      let left : part.to - (part.from + root.size) ≡ nodes beside = omega (arith, size, count) in
      let from : part.from + root.size ≡ part.from + 1 + nodes below = omega (arith, size) in
      ap (λ n. take n (drop (part.from + root.size) (map row_of rows))) left
      ∙ ap (λ n. take (nodes beside) (drop n (map row_of rows))) from
      ∙ ap (take (nodes beside)) (sym (drop-drop (nodes below) (part.from + 1) (map row_of rows)))
      ∙ sym (drop-take (nodes below) (nodes beside) all)
      ∙ ap (λ n. drop (nodes below) (take n all)) count
      ∙ ap (drop (nodes below)) (sym tail)
      ∙ drop_at (rows_of below) (rows_of beside) (nodes below) (length-rows_of below)

  pub children_are_part : IsPart (map row_of rows) children_part
  children_are_part = record {
    ordered = omega (arith, size);
    within = omega (arith, middle_within, is_part.within);
    high = omega (arith, middle_within, size, is_part.high);
    forest = subst IsForest (sym children_rows) (IsForest-rows_of below);
  }

  pub rest_is_part : IsPart (map row_of rows) rest_part
  rest_is_part = record {
    ordered = middle_within;
    within = is_part.within;
    high = omega (arith, middle_within, is_part.high);
    forest = subst IsForest (sym rest_rows) (IsForest-rows_of beside);
  }

  pub level_apart : level_in (map row_of rows) part ≡ max part.level (max (level_in (map row_of rows) children_part) (level_in (map row_of rows) rest_part))
  level_apart =
      ap (λ l. greatest_level part.level (trees_of l)) opened
      ∙ ap (λ trees. max part.level (max (greatest_level (part.level + 1) trees) (greatest_level part.level beside))) (sym (ap trees_of children_rows ∙ trees_of-rows_of below))
      ∙ ap (λ trees. max part.level (max (level_in (map row_of rows) children_part) (greatest_level part.level trees))) (sym (ap trees_of rest_rows ∙ trees_of-rows_of beside))

  pub level_apart_other : level_in (map row_of rows) part ≡ max part.level (max (level_in (map row_of rows) rest_part) (level_in (map row_of rows) children_part))
  level_apart_other = level_apart ∙ ap (max part.level) (max-swap (level_in (map row_of rows) children_part) (level_in (map row_of rows) rest_part))

-- pushing a part
pub AreParts-push : (rows : List Row) (room : ℕ) (parts : List Part) (part : Part) → AreParts rows room parts → IsPart rows part
    → part_length part < 2 ^ (room - length parts) → AreParts rows room (parts ++ part ∷ [])
AreParts-push rows room [] part h k few = (k, (let same : room - 0 ≡ room = omega arith in subst (λ n. part_length part < 2 ^ n) same few), tt)
AreParts-push rows room (first ∷ parts) part h k few =
    let less : room - suc (length parts) ≡ room - 1 - length parts = omega arith in
    (h.0, h.1, AreParts-push rows (room - 1) parts part h.2 k (subst (λ n. part_length part < 2 ^ n) less few))

-- popping a part
pub AreParts-pop : (rows : List Row) (room : ℕ) (parts : List Part) (part : Part) → AreParts rows room (parts ++ part ∷ [])
    → AreParts rows room parts × IsPart rows part × (part_length part < 2 ^ (room - length parts))
AreParts-pop rows room [] part h = (tt, h.0, (let same : room ≡ room - 0 = omega arith in subst (λ n. part_length part < 2 ^ n) same h.1))
AreParts-pop rows room (first ∷ parts) part h =
    let less : room - 1 - length parts ≡ room - suc (length parts) = omega arith in
    let rest = AreParts-pop rows (room - 1) parts part h.2 in
    ((h.0, h.1, rest.0), rest.1, subst (λ n. part_length part < 2 ^ n) less rest.2)

pub level_of_parts-push : (rows : List Row) (parts : List Part) (part : Part) → level_of_parts rows (parts ++ part ∷ []) ≡ max (level_of_parts rows parts) (level_in rows part)
level_of_parts-push rows [] part = omega arith
level_of_parts-push rows (first ∷ parts) part = let h = level_of_parts-push rows parts part in omega arith

pub length_of_parts-push : (parts : List Part) (part : Part) → length_of_parts (parts ++ part ∷ []) ≡ length_of_parts parts + part_length part
length_of_parts-push [] part = omega arith
length_of_parts-push (first ∷ parts) part = let h = length_of_parts-push parts part in omega arith

-- an empty part has no levels
pub level_in-none : (rows : List Row) (part : Part) → part.to ≤ part.from → level_in rows part ≡ 0
level_in-none rows part none =
    let empty : part.to - part.from ≡ 0 = omega arith in
    ap (λ n. greatest_level part.level (trees_of (take n (drop part.from rows)))) empty

-- powers of two, and halves of them
power_some : (n k : ℕ) → 0 < n → n < 2 ^ k → 0 < k
power_some n zero some less = absurd (omega arith)
power_some n (suc k) some less = omega arith

power_half : (n k : ℕ) → 2 * n + 1 ≤ 2 ^ suc k → n < 2 ^ k
power_half n k less = let double = pow-suc 2 k in omega arith

-- the stack after a part has been split
module _ (rows : List Row) (waiting kept : List Part) (part large small : Part) (popped : waiting ≡ kept ++ part ∷ [])
    (are_parts : AreParts rows 64 waiting) where
  parted : AreParts rows 64 kept × IsPart rows part × (part_length part < 2 ^ (64 - length kept))
  parted = AreParts-pop rows 64 kept part (subst (AreParts rows 64) popped are_parts)

  pub kept_are_parts : AreParts rows 64 kept
  kept_are_parts = parted.0

  pub top_is_part : IsPart rows part
  top_is_part = parted.1

  pub room_left : part.from < part.to → length kept < 64
  room_left some = let room = power_some (part_length part) (64 - length kept) (omega arith) parted.2 in omega arith

  pub apart_are_parts : part.from < part.to → IsPart rows large → IsPart rows small
      → part_length large + part_length small + 1 ≡ part_length part → part_length small ≤ part_length large
      → AreParts rows 64 ((kept ++ large ∷ []) ++ small ∷ [])
  apart_are_parts some first second sizes few =
      let room = room_left some in
      let more : 64 - length kept ≡ suc (64 - length (kept ++ large ∷ [])) = omega (arith, length-append kept (large ∷ [])) in
      let bound : part_length part < 2 ^ suc (64 - length (kept ++ large ∷ [])) = subst (λ n. part_length part < 2 ^ n) more parted.2 in
      let under = parted.2 in
      AreParts-push rows 64 (kept ++ large ∷ []) small
      (AreParts-push rows 64 kept large parted.0 first (omega (arith, under)))
      second
      (power_half (part_length small) (64 - length (kept ++ large ∷ [])) (omega (arith, bound)))

  pub apart_levels : (deepest deeper whole : ℕ) → deeper ≡ max deepest part.level
      → level_in rows part ≡ max part.level (max (level_in rows large) (level_in rows small))
      → max deepest (level_of_parts rows waiting) ≡ whole
      → max deeper (level_of_parts rows ((kept ++ large ∷ []) ++ small ∷ [])) ≡ whole
  apart_levels deepest deeper whole larger level same =
      let a = level_of_parts-push rows (kept ++ large ∷ []) small in
      let b = level_of_parts-push rows kept large in
      let d = ap (level_of_parts rows) popped in
      let e = level_of_parts-push rows kept part in
      omega arith

  pub kept_levels : (deepest whole : ℕ) → part.to ≤ part.from → max deepest (level_of_parts rows waiting) ≡ whole → max deepest (level_of_parts rows kept) ≡ whole
  kept_levels deepest whole none same =
      let d = ap (level_of_parts rows) popped in
      let e = level_of_parts-push rows kept part in
      let zero_level = level_in-none rows part none in
      omega arith

  pub apart_fewer : part.from < part.to → part_length large + part_length small + 1 ≡ part_length part
      → 2 * length_of_parts ((kept ++ large ∷ []) ++ small ∷ []) + length ((kept ++ large ∷ []) ++ small ∷ []) < 2 * length_of_parts waiting + length waiting
  apart_fewer some sizes =
      let a = length_of_parts-push (kept ++ large ∷ []) small in
      let b = length_of_parts-push kept large in
      let d = ap length_of_parts popped in
      let e = length_of_parts-push kept part in
      let f = length_push (kept ++ large ∷ []) small in
      let g = length_push kept large in
      let h = length_push kept part in
      let i = ap length popped in
      omega arith

  pub kept_fewer : 2 * length_of_parts kept + length kept < 2 * length_of_parts waiting + length waiting
  kept_fewer =
      let d = ap length_of_parts popped in
      let e = length_of_parts-push kept part in
      let h = length_push kept part in
      let i = ap length popped in
      omega arith
