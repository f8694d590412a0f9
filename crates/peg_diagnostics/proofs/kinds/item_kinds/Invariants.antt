use Rattle.std.proofs.Common.{◌≡◌, ◌++◌, drop}
use Rattle.peg_diagnostics.specs.ItemKinds.{kinds_of_items}
use Rattle.peg_grammar.specs.GrammarRules.{rules_in}
use Rattle.peg_diagnostics.proofs.kinds.item_kinds.Given as goal

-- the kinds so far and those of the remaining rules are those of all rules
abbrev pub invariant-loop-rule : goal.invariant-loop-rule
invariant-loop-rule l =
    l.kinds.items ++ kinds_of_items (drop l.rule (rules_in l.grammar)) ≡ kinds_of_items (rules_in l.grammar)
