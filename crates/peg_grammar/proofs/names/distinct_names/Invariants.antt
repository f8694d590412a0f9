use Rattle.std.proofs.Common.{◌≡◌, take, drop}
use Rattle.peg_semantics.specs.Grammar.{duplicate_after, first_duplicate}
use Rattle.peg_grammar.specs.Names.{names_in}
use Rattle.peg_semantics.specs.Rules.{names}
use Rattle.peg_grammar.specs.Written.{rules_of}
use Rattle.peg_grammar.proofs.names.distinct_names.Given as goal

-- the set contains the names so far, and the result for the remaining definitions is the result for all
abbrev pub invariant-loop-definition : goal.invariant-loop-definition
invariant-loop-definition l =
    (names_in l.names ≡ names (rules_of (take l.definition-index l.definitions)))
    × (duplicate_after (names_in l.names) (rules_of (drop l.definition-index l.definitions))
    ≡ first_duplicate (rules_of l.definitions))
