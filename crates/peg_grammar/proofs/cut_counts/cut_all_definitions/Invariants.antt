use Rattle.peg_semantics.specs.CutCounts.{cut_rule}
use Rattle.peg_grammar.specs.Written.{rule_of}
use Rattle.peg_grammar.proofs.CutLoops.{IsReplaced}
use Rattle.peg_grammar.proofs.cut_counts.cut_all_definitions.Given as goal

-- the definitions so far are cut, and the others are those at the start
abbrev pub invariant-loop-definition : goal.invariant-loop-definition
invariant-loop-definition l =
    IsReplaced rule_of (λ definition. cut_rule (rule_of definition)) l.initial.definitions l.definitions l.definition-index
