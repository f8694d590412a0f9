use Rattle.std.proofs.Common.{◌≡◌, map, take}
use Rattle.peg_grammar.specs.GrammarRules.{rules_in}
use Rattle.peg_semantics.specs.Rules.{Rule}
use Rattle.peg_spacing.specs.Spacing.{repeats_gaps}
use Rattle.peg_spacing.proofs.spacing.repeating_rules.Given as goal

-- the first rules
abbrev pub invariant-rules : goal.invariant-rules
invariant-rules l =
    l.flags.items ≡ map (λ (r : Rule). repeats_gaps (rules_in l.grammar) l.gaps r.body) (take l.rule (rules_in l.grammar))
