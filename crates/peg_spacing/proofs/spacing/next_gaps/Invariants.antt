use Rattle.std.proofs.Common.{◌≡◌, map, take}
use Rattle.peg_grammar.specs.GrammarRules.{rules_in}
use Rattle.peg_semantics.specs.Rules.{Rule}
use Rattle.peg_spacing.specs.Gaps.{gap_of}
use Rattle.peg_spacing.proofs.spacing.next_gaps.Given as goal

-- the first rules
abbrev pub invariant-rules : goal.invariant-rules
invariant-rules l =
    l.next.items ≡ map (λ (r : Rule). gap_of (rules_in l.grammar) l.gaps r.body) (take l.rule (rules_in l.grammar))
