use Rattle.std.proofs.Common.{◌≡◌, ◌+◌, ◌*◌, ◌≤◌, true, length, map, drop}
use Rattle.peg_semantics.specs.Form.{counts_written_by_all, forms, forms_weight, names_used_by_all}
use Rattle.peg_semantics.specs.Grammar.{max_parts}
use Rattle.peg_grammar.specs.GrammarRules.{rules_in}
use Rattle.peg_grammar.specs.Written.{form_of}
use Rattle.peg_core.specs.CoreParts.{are_defined, are_in_range}
use Rattle.peg_core.specs.Layout.{max_forms, max_forms_each}
use Rattle.peg_core.proofs.AddLemmas.{SoFar}
use Rattle.peg_core.proofs.desugaring.+sugar.Given as goal

-- the forms of the items so far were appended, and those of the others are within the limit
abbrev pub invariant-add_all-loop-item : goal.invariant-add_all-loop-item
invariant-add_all-loop-item l = record {
  room : length l.builder.forms + max_forms_each * forms_weight (forms (drop l.item-index (map form_of l.items))) ≤ max_forms;
  few : length l.builder.spans + forms_weight (forms (drop l.item-index (map form_of l.items))) ≤ max_parts;
  rules : l.builder.rules ≡ length (rules_in l.grammar);
  defined : are_defined (rules_in l.grammar) (names_used_by_all (forms (drop l.item-index (map form_of l.items)))) ≡ true;
  ranged : are_in_range (counts_written_by_all (forms (drop l.item-index (map form_of l.items)))) ≡ true;
  so_far : SoFar (rules_in l.grammar) (forms (map form_of l.items)) l.fn.builder (forms (drop l.item-index (map form_of l.items))) l.numbers.items l.builder;
}
