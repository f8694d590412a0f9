use Rattle.std.proofs.Common.{◌≡◌, ◌++◌, drop, map, replicate}
use Rattle.peg_diagnostics.specs.Items.{items_of_all}
use Rattle.peg_grammar.specs.Written.{form_of}
use Rattle.peg_semantics.specs.Form.{forms}
use Rattle.peg_diagnostics.proofs.rule_numbers.+rules.Given as goal

-- the rules so far and those of the remaining expressions are those at the start and those of all expressions
abbrev pub invariant-add_rule_of_all-loop-item : goal.invariant-add_rule_of_all-loop-item
invariant-add_rule_of_all-loop-item l =
    l.rules.items ++ replicate (items_of_all (forms (drop l.item-index (map form_of l.items)))) l.rule
    ≡ l.initial.rules.items ++ replicate (items_of_all (forms (map form_of l.items))) l.rule
