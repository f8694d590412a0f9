use Rattle.std.proofs.Common.{◌≡◌, ◌++◌, [], drop, map, reverse}
use Rattle.peg_tree.specs.Rows.{row_of}
use Rattle.peg_tree.specs.Levels.{levels_of_rows}
use Rattle.peg_handle.proofs.levels.node_levels.Given as goal

-- the levels so far, and those of the remaining nodes, are all levels
abbrev pub invariant-loop-at : goal.invariant-loop-at
invariant-loop-at l =
    l.levels.items ++ levels_of_rows (reverse l.ends.items) l.at (map row_of (drop l.at l.nodes))
    ≡ levels_of_rows [] 0 (map row_of l.nodes)
