use Rattle.std.proofs.Common.{◌≡◌, ◌+◌, ◌++◌, drop}
use Rattle.peg_diagnostics.specs.Marked.{alternatives_of_rules, mark_rules}
use Rattle.peg_grammar.specs.GrammarRules.{rules_in}
use Rattle.peg_grammar.specs.Written.{rules_of}
use Rattle.peg_diagnostics.proofs.marked.add_marked_rules.Given as goal

-- the rules so far and the remaining ones marked are those at the start and all rules marked
abbrev pub invariant-loop-rule : goal.invariant-loop-rule
invariant-loop-rule l = record {
  rules : rules_of l.definitions.items ++ mark_rules l.next l.marker (drop l.rule (rules_in l.grammar))
      ≡ rules_of l.initial.definitions.items ++ mark_rules 0 l.first_marker (rules_in l.grammar);
  counted : l.next + alternatives_of_rules (drop l.rule (rules_in l.grammar)) ≡ alternatives_of_rules (rules_in l.grammar);
  numbered : l.marker ≡ l.first_marker + l.rule;
}
