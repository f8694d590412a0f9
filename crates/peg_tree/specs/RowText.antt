-- Describes code: the JSON text of a tree's node list, with rule names given as JSON strings.
use Rattle.std.specs.Prelude.{ℕ, ◌+◌, ◌≤◌, ◌==◌, ◌||◌, Bool, true, List, [], ◌∷◌, ◌++◌, ◌-◌, Option, Some, None, length, map, drop, reverse, nat_lt, vec_len, if◌then◌else◌, ⊤}
use Rattle.std.specs.Fmt.{decimal}
use Rattle.std.specs.declared.alloc.Global.{Global}
use Rattle.std.specs.declared.vec.Vec.{Vec}
use Rattle.std.specs.Coded.{Unit-prop, le_prop}
use mathlib.Core.HLevel.{×_prop}
use Rattle.serde_json.specs.Written.{comma_if}
use Rattle.peg_tree.specs.Levels.{open_at}
use Rattle.peg_tree.specs.Names.{name_at}
use Rattle.peg_tree.specs.Rows.{Row, row_of}
use Rattle.peg_tree.specs.Selected.{has_rule}
use Rattle.peg_tree.specs.declared.row.TreeNode.{TreeNode}

-- a node as JSON: its level, the name of its rule, its start and its end
abbrev pub row_text : (level : ℕ) → (name : List ℕ) → (start end : ℕ) → List ℕ
row_text level name start end =
    91 ∷ (decimal level ++ 44 ∷ (name ++ 44 ∷ (decimal start ++ 44 ∷ (decimal end ++ 93 ∷ []))))

-- what is printed of a node
pub record PrintedRow : Type 0 where
  pub level : ℕ
  pub rule : ℕ
  pub start : ℕ
  pub end : ℕ

abbrev pub printed_row : (level : ℕ) → Row → PrintedRow
printed_row level row = record { level = level; rule = row.rule; start = row.start; end = row.end }

-- The nodes from number `number` on that are shown, and the root if it is one of them. `ends` are the ends of the open
-- nodes, innermost first. A node that is not shown opens no level.
abbrev pub printed_rows : (shown : ℕ → Bool) → (ends : List ℕ) → ℕ → List Row → List PrintedRow
printed_rows shown ends number [] = []
printed_rows shown ends number (row ∷ rows) =
    if (number == 0) || shown row.rule
    then printed_row (1 + length (open_at number ends)) row
    ∷ printed_rows shown ((number + row.size) ∷ open_at number ends) (number + 1) rows
    else printed_rows shown ends (number + 1) rows

-- the text of these nodes
abbrev pub printed_text : (later : Bool) → List (List ℕ) → List PrintedRow → List ℕ
printed_text later names [] = []
printed_text later names (row ∷ rows) =
    comma_if later ++ (row_text row.level (name_at names row.rule) row.start row.end ++ printed_text true names rows)

-- the rules whose nodes are shown: those of the set, or all if there is none
abbrev pub shown_rules : Option (List Bool) → ℕ → Bool
shown_rules None = λ _. true
shown_rules (Some set) = has_rule set

-- every number is at most `limit`
abbrev pub EachAtMost : (limit : ℕ) → List ℕ → Type 0
EachAtMost limit [] = ⊤
EachAtMost limit (number ∷ numbers) = (number ≤ limit) × EachAtMost limit numbers

pub EachAtMost-prop : (limit : ℕ) (numbers : List ℕ) → IsProp (EachAtMost limit numbers)
EachAtMost-prop limit [] = Unit-prop
EachAtMost-prop limit (number ∷ numbers) = ×_prop le_prop (EachAtMost-prop limit numbers)

-- a piece has a byte or more, and a buffer of length `len` has space for a full piece and the longest possible node,
-- given the rule names
abbrev pub HasRoom : (piece len : ℕ) → List (Vec ℕ Global) → Type 0
HasRoom piece len names =
    ((1 ≤ piece) × (piece + 68 ≤ len)) × EachAtMost (len - (piece + 68)) (map (λ name. vec_len name) names)

pub HasRoom-prop : (piece len : ℕ) (names : List (Vec ℕ Global)) → IsProp (HasRoom piece len names)
HasRoom-prop piece len names =
    ×_prop (×_prop le_prop le_prop) (EachAtMost-prop (len - (piece + 68)) (map (λ name. vec_len name) names))

-- the printed nodes from number `at` on, their levels and their text; `ends` are the ends of the open nodes, innermost
-- last
abbrev pub printed_from : (shown : ℕ → Bool) → List TreeNode → (at : ℕ) → (ends : List ℕ) → List PrintedRow
printed_from shown rows at ends = printed_rows shown (reverse ends) at (map row_of (drop at rows))

abbrev pub printed_levels : List PrintedRow → List ℕ
printed_levels rows = map (λ row. row.level) rows

abbrev pub levels_from : (shown : ℕ → Bool) → List TreeNode → (at : ℕ) → (ends : List ℕ) → List ℕ
levels_from shown rows at ends = printed_levels (printed_from shown rows at ends)

abbrev pub text_from : (shown : ℕ → Bool) → List (Vec ℕ Global) → List TreeNode → (at : ℕ) → (ends : List ℕ) → List ℕ
text_from shown names rows at ends =
    printed_text (nat_lt 0 at) (map (λ name. name.items) names) (printed_from shown rows at ends)
