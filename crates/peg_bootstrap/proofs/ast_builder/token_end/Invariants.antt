use Rattle.std.proofs.Common.{◌≡◌}
use Rattle.peg_bootstrap.specs.FigureNodes.{last_start}
use Rattle.peg_tree.specs.Branches.{trees_in}
use Rattle.peg_tree.specs.Nodes.{root_count}
use Rattle.peg_bootstrap.proofs.ast_builder.token_end.Given as goal

-- the last tree of the rest is the last of all
abbrev pub invariant-loop-last : goal.invariant-loop-last
invariant-loop-last l = last_start l.token.span.start (trees_in l.token.children) ≡ last_start l.last (trees_in l.rest)

abbrev pub decreases-loop-last : goal.decreases-loop-last
decreases-loop-last l = root_count (trees_in l.rest)
