use Rattle.peg_lint.proofs.heads.+head.Given as goal

abbrev pub decreases-head : goal.decreases-head
decreases-head l = l.steps
