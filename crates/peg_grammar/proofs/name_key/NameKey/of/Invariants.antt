use Rattle.std.proofs.Common.{take}
use Rattle.sha2.specs.Hashers.{Holds256}
use Rattle.peg_semantics.specs.Rules.{names as names_of}
use Rattle.peg_grammar.specs.Names.{ended_names}
use Rattle.peg_grammar.specs.Written.{rules_of}
use Rattle.peg_grammar.proofs.name_key.NameKey.of.Given as goal

-- the hasher has read the names so far
abbrev pub invariant-loop-definition : goal.invariant-loop-definition
invariant-loop-definition l = Holds256 l.names (ended_names (names_of (rules_of (take l.definition-index l.definitions))))
