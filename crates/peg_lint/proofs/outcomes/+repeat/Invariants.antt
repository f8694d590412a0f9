use Rattle.peg_lint.proofs.outcomes.+repeat.Given as goal

-- proposed from what the function passes where it calls itself
abbrev pub decreases-repeat : goal.decreases-repeat
decreases-repeat l = l.max
