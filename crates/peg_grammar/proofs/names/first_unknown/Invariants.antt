use Rattle.std.proofs.Common.{◌≡◌, drop, find}
use Rattle.peg_semantics.specs.Grammar.{is_unknown}
use Rattle.peg_grammar.specs.Names.{names_in}
use Rattle.peg_semantics.specs.Rules.{references}
use Rattle.peg_grammar.specs.Written.{rules_of}
use Rattle.peg_grammar.proofs.names.first_unknown.Given as goal

-- the result for the remaining definitions is the result for all definitions
abbrev pub invariant-loop-definition : goal.invariant-loop-definition
invariant-loop-definition l =
    find (is_unknown (names_in l.names)) (references (rules_of (drop l.definition-index l.definitions)))
    ≡ find (is_unknown (names_in l.names)) (references (rules_of l.definitions))
