use Rattle.std.proofs.Common.{◌≡◌, ◌+◌, ◌++◌, map, drop}
use Rattle.peg_diagnostics.specs.Diagnostic.{loud_all}
use Rattle.peg_diagnostics.specs.ItemTests.{added_terminals_of_all}
use Rattle.peg_semantics.specs.Form.{forms, terminals_of_all}
use Rattle.peg_grammar.specs.Written.{form_of}
use Rattle.peg_diagnostics.proofs.terminals.+numbers.Given as goal

-- what is so far and what comes of the remaining expressions is what comes of all of them
abbrev pub invariant-add_all_numbers-loop-item : goal.invariant-add_all_numbers-loop-item
invariant-add_all_numbers-loop-item l = record {
  numbers : l.numbers.items ++ added_terminals_of_all (forms (drop l.item-index (map form_of l.items))) l.next
      ≡ l.initial.numbers.items ++ added_terminals_of_all (forms (map form_of l.items)) l.first;
  counted : l.next + terminals_of_all (loud_all (forms (drop l.item-index (map form_of l.items))))
      ≡ l.first + terminals_of_all (loud_all (forms (map form_of l.items)));
}
