use Rattle.peg_grammar.specs.Written.{rules_of}
use Rattle.peg_tree.specs.Branches.{trees_in, trees_from_branch}
use Rattle.peg_tree.specs.Nodes.{root_count}
use Rattle.peg_bootstrap.proofs.Walks.{Defining}
use Rattle.peg_bootstrap.proofs.definitions.definitions_before_count.Given as goal

abbrev pub invariant-definitions : goal.invariant-definitions
invariant-definitions l = Defining l.file l.tree (rules_of l.definitions.items) (trees_from_branch l.node)

abbrev pub decreases-definitions : goal.decreases-definitions
decreases-definitions l = root_count (trees_in l.node.rest)
