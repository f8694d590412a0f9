use Rattle.std.proofs.Common.{◌≡◌, ◌+◌, ◌++◌, drop}
use Rattle.peg_semantics.specs.Numbers.{first_from, terminals_of}
use Rattle.peg_grammar.specs.Written.{rules_of}
use Rattle.peg_grammar.proofs.terminals.first_terminals.Given as goal

abbrev pub invariant-loop-definition : goal.invariant-loop-definition
invariant-loop-definition l = record {
  numbered : l.first.items ++ first_from l.next (drop l.definition-index (rules_of l.definitions)) ≡ first_from 0 (rules_of l.definitions);
  counted : l.next + terminals_of (drop l.definition-index (rules_of l.definitions)) ≡ terminals_of (rules_of l.definitions);
}
