-- Calls whose children are complete.
use Rattle.std.specs.Prelude.{◌≡◌, ◌≤◌, ℕ, true, false, drop, length, List}
use Rattle.peg_nodes.specs.OpenNodes.{AreClosed, IsOpenAt}
use Rattle.peg_tree.specs.Rows.{Row}
use Rattle.peg_runs.specs.ShownRows.{Shown}

-- The nodes from number `count` on are those of a call of a rule whose children are complete. Its own node is the
-- newest open one. If the rule isn't shown, the nodes are those of its children alone, which are closed.
pub record IsWholeFrom (shown : Shown) (rows : List Row) (rule count : ℕ) : Type 0 where
  pub opened : shown rule ≡ true → IsOpenAt rows count
  pub are_closed : shown rule ≡ false → AreClosed (drop count rows)
  pub within : count ≤ length rows
