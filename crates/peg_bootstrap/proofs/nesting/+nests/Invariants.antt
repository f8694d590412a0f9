use Rattle.std.proofs.Common.{◌≤◌, max}
use Rattle.peg_metagrammar.specs.Nesting.{nesting}
use Rattle.peg_tree.specs.Branches.{trees_in}
use Rattle.peg_tree.specs.Nodes.{root_count}
use Rattle.peg_tree.specs.Trees.{nodes}
use Rattle.peg_bootstrap.proofs.nesting.+nests.Given as goal

abbrev pub decreases-nests_within : goal.decreases-nests_within
decreases-nests_within l = nodes (trees_in l.trees.now)

-- the trees before the rest are within the limit
abbrev pub invariant-trees : goal.invariant-trees
invariant-trees l = record {
  less : nesting (trees_in l.rest) ≤ nesting (trees_in l.trees);
  limit : nesting (trees_in l.trees) ≤ max l.left (nesting (trees_in l.rest));
  fewer : nodes (trees_in l.rest) ≤ nodes (trees_in l.trees);
}

abbrev pub decreases-trees : goal.decreases-trees
decreases-trees l = root_count (trees_in l.rest)
