use Rattle.std.proofs.Common.{◌≡◌}
use Rattle.peg_metagrammar.specs.Nesting.{has_open}
use Rattle.peg_tree.specs.Branches.{trees_in}
use Rattle.peg_tree.specs.Nodes.{root_count}
use Rattle.peg_bootstrap.proofs.nesting.has_open.Given as goal

-- no tree before the rest is a match of OPEN
abbrev pub invariant-trees : goal.invariant-trees
invariant-trees l = has_open (trees_in l.trees) ≡ has_open (trees_in l.rest)

abbrev pub decreases-trees : goal.decreases-trees
decreases-trees l = root_count (trees_in l.rest)
