use Rattle.std.proofs.Common.{◌≡◌, ◌++◌, drop}
use Rattle.peg_diagnostics.specs.Items.{rules_of_items, rules_of_items_from}
use Rattle.peg_grammar.specs.GrammarRules.{rules_in}
use Rattle.peg_diagnostics.proofs.rule_numbers.item_rules.Given as goal

-- the rules so far and those of the items of the remaining rules are those of all items
abbrev pub invariant-loop-rule : goal.invariant-loop-rule
invariant-loop-rule l =
    l.rules.items ++ rules_of_items_from l.rule (drop l.rule (rules_in l.grammar)) ≡ rules_of_items (rules_in l.grammar)
