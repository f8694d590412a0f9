use Rattle.std.proofs.Common.{◌≡◌, drop, find}
use Rattle.peg_semantics.specs.Rules.{counts}
use Rattle.peg_grammar.specs.Written.{rules_of}
use Rattle.peg_grammar.proofs.BadCounts.{is_bad}
use Rattle.peg_grammar.proofs.counts.first_bad_count.Given as goal

-- the result for the remaining definitions is the result for all definitions
abbrev pub invariant-loop-definition : goal.invariant-loop-definition
invariant-loop-definition l =
    find is_bad (counts (rules_of (drop l.definition-index l.definitions))) ≡ find is_bad (counts (rules_of l.definitions))
