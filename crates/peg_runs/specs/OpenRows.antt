-- The tree nodes of active calls.
use Rattle.std.specs.Prelude.{ℕ, ◌-◌, List, [], ◌∷◌, ◌++◌, length, set, if◌then◌else◌}
use Rattle.peg_tree.specs.Rows.{Row}
use Rattle.peg_tree.specs.Trees.{Trees, NoTrees, Tree}
use Rattle.peg_semantics.specs.Record.{RuleCall}
use Rattle.peg_runs.specs.ShownRows.{shown_rows, Shown}

-- a call's node while it is active, without an end
abbrev pub open_row : RuleCall → Row
open_row pair = record { rule = pair.rule; start = pair.position; end = pair.position; size = 0 }

-- an active call already has its node, if its rule is shown
abbrev pub own_rows : Shown → RuleCall → List Row
own_rows shown pair = if shown pair.rule then open_row pair ∷ [] else []

-- the nodes before an active call come first, then its own, and those of its children follow
abbrev pub opened : Shown → List Row → RuleCall → List Row
opened shown before pair = before ++ own_rows shown pair

-- The root is always shown. If the rule of the start isn't, the root's node comes before the nodes of the start's call.
abbrev pub root_rows : Shown → RuleCall → List Row
root_rows shown start = if shown start.rule then [] else open_row start ∷ []

-- the nodes of a start that has matched, with its root closed
abbrev pub with_root : Shown → (start : RuleCall) → (end : ℕ) → List Row → List Row
with_root shown start end rows =
    if shown start.rule
    then rows
    else set rows 0 (record { rule = start.rule; start = start.position; end = end; size = length rows })

-- the nodes after a match: those before the call, its own with its end, and those of its children
abbrev pub rows_after_match : Shown → List Row → RuleCall → (end : ℕ) → Trees → List Row
rows_after_match shown before pair end children =
    before ++ shown_rows shown (Tree pair.rule pair.position end children NoTrees)

-- the node of a call closed: it gets its end, and its size counts itself and all nodes after it
abbrev pub close_row : Shown → (at : ℕ) → List Row → RuleCall → (end : ℕ) → List Row
close_row shown at rows pair end =
    if shown pair.rule
    then set rows at (record { rule = pair.rule; start = pair.position; end = end; size = length rows - at })
    else rows
