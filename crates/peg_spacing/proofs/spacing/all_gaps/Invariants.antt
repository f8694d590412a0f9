use Rattle.std.proofs.Common.{◌≡◌}
use Rattle.peg_grammar.specs.GrammarRules.{rules_in}
use Rattle.peg_spacing.specs.Gaps.{gaps_in}
use Rattle.peg_spacing.proofs.spacing.all_gaps.Given as goal

-- what the rules begin with, after the steps so far
abbrev pub invariant-steps : goal.invariant-steps
invariant-steps l = l.gaps.items ≡ gaps_in (rules_in l.grammar) l.counter
