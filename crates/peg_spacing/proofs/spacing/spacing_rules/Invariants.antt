use Rattle.std.proofs.Common.{◌≡◌}
use Rattle.peg_grammar.specs.GrammarRules.{rules_in}
use Rattle.peg_spacing.specs.Spacing.{spacing_in}
use Rattle.peg_spacing.proofs.spacing.spacing_rules.Given as goal

-- the rules in spacing, after the steps so far
abbrev pub invariant-steps : goal.invariant-steps
invariant-steps l = l.flags.items ≡ spacing_in (rules_in l.grammar) l.counter
