-- The levels of the nodes of a result.
use Rattle.std.specs.Prelude.{ℕ, List, []}
use Rattle.peg_tree.specs.Levels.{levels_of}
use Rattle.peg_tree.specs.declared.outcome.Parsed.{Parsed}
use Rattle.peg_tree.specs.declared.outcome.Parsed.TheVariants.{Matched, Failed}

-- the level of each node of the tree, in preorder; the root has level 1
abbrev pub parsed_levels : Parsed → List ℕ
parsed_levels Failed = []
parsed_levels (Matched end tree) = levels_of 1 tree
