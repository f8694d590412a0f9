use Rattle.std.proofs.Common.{◌≡◌, ◌++◌, List, length, map, drop}
use Rattle.peg_check.specs.Cans.{can_of}
use Rattle.peg_grammar.specs.GrammarRules.{rules_in}
use Rattle.peg_grammar.specs.Written.{form_of}
use Rattle.peg_semantics.specs.AbstractOutcomes.{Can}
use Rattle.peg_semantics.specs.Form.{forms}
use Rattle.peg_lint.specs.Linting.{Adds, FindsBelowBut}
use Rattle.peg_lint.specs.Outcomes.{AreOutcomes}
use Rattle.peg_lint.proofs.visit.+lint.Given as goal

-- the outcomes so far, before any of the remaining items, are those of all items
abbrev pub invariant-lint_all-loop-item : goal.invariant-lint_all-loop-item
invariant-lint_all-loop-item l = record {
  outcomes : (rest : List Can) → AreOutcomes (rules_in l.grammar) (forms (drop l.item-index (map form_of l.items))) rest
      → AreOutcomes (rules_in l.grammar) (forms (map form_of l.items)) (map can_of l.cans.items ++ rest);
  count : length l.cans.items ≡ l.item-index;
  adds : Adds (rules_in l.grammar) (FindsBelowBut (rules_in l.grammar) l.rule (forms (drop l.item-index (map form_of l.items)))
      (forms (map form_of l.items))) l.fn.found.items l.found.items;
}
