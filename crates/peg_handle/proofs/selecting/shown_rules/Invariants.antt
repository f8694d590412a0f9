use Rattle.std.proofs.Common.{◌≡◌, ◌<◌, ◌≤◌, ℕ, false, length}
use Rattle.peg_tree.specs.Selected.{has_rule}
use Rattle.peg_handle.specs.Selections.{shows}
use Rattle.peg_handle.proofs.selecting.shown_rules.Given as goal

-- the set has the shown rules so far
abbrev pub invariant-rules : goal.invariant-rules
invariant-rules l =
    (length l.set ≡ l.count)
    × ((other : ℕ) → other < l.rule → has_rule l.set other ≡ shows l.shown other)
    × ((other : ℕ) → l.rule ≤ other → has_rule l.set other ≡ false)
