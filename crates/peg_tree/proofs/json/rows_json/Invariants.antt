use Rattle.std.proofs.Common.{◌≡◌, ◌++◌, drop, map}
use Rattle.serde_json.specs.View.{view}
use Rattle.peg_tree.specs.Rows.{row_of}
use Rattle.peg_tree.proofs.JsonRows.{rows_with_levels}
use Rattle.peg_tree.proofs.json.rows_json.Given as goal

-- the nodes converted so far and the remaining nodes are all nodes
abbrev pub invariant-loop-at : goal.invariant-loop-at
invariant-loop-at g l =
    map view l.list.items ++ rows_with_levels (g.N.Names.names l.names) (drop l.at l.levels.items) (map row_of (drop l.at l.rows))
    ≡ rows_with_levels (g.N.Names.names l.names) l.levels.items (map row_of l.rows)
