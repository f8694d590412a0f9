use Rattle.std.proofs.Common.{◌≡◌, ◌++◌, [], drop, map, reverse}
use Rattle.peg_tree.specs.Rows.{row_of}
use Rattle.peg_tree.specs.Levels.{levels_of_rows}
use Rattle.peg_tree.proofs.levels.levels_in.Given as goal

-- the levels computed so far and the levels of the remaining nodes are all levels
abbrev pub invariant-loop-at : goal.invariant-loop-at
invariant-loop-at l = record {
  same : l.levels.items ++ levels_of_rows (reverse l.ends.items) l.at (map row_of (drop l.at l.rows)) ≡ levels_of_rows [] 0 (map row_of l.rows);
}
