use Rattle.std.proofs.Common.{◌≡◌, ◌≤◌, ◌+◌, ◌++◌, drop}
use Rattle.peg_diagnostics.specs.ItemTests.{added_terminals_from, item_terminals}
use Rattle.peg_diagnostics.proofs.Lookups.{loud_terminals}
use Rattle.peg_grammar.specs.GrammarRules.{rules_in}
use Rattle.peg_diagnostics.proofs.terminals.item_terminals.Given as goal

-- the numbers so far and those of the remaining rules are those of all rules
abbrev pub invariant-loop-rule : goal.invariant-loop-rule
invariant-loop-rule l = record {
  numbers : l.numbers.items ++ added_terminals_from l.next (drop l.rule (rules_in l.grammar))
      ≡ item_terminals (rules_in l.grammar);
  counted : l.next + loud_terminals (drop l.rule (rules_in l.grammar)) ≤ loud_terminals (rules_in l.grammar);
}
