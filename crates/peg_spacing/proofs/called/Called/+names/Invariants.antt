use Rattle.std.proofs.Common.{◌≡◌, ◌||◌, ℕ, drop, length, map}
use Rattle.peg_grammar.specs.GrammarRules.{rules_in}
use Rattle.peg_grammar.specs.Written.{form_of}
use Rattle.peg_semantics.specs.Form.{forms, names_used_by_all}
use Rattle.peg_spacing.specs.Spacing.{has_flag, refer_to}
use Rattle.peg_spacing.proofs.called.Called.+names.Given as goal

-- the rules of the items so far are added, and those of the others remain
abbrev pub invariant-add_all_names-loop-item : goal.invariant-add_all_names-loop-item
invariant-add_all_names-loop-item l = record {
  count : length l.self.flags.items ≡ length l.fn.self.flags.items;
  added : (rule : ℕ)
      → (has_flag l.self.flags.items rule
      || refer_to (rules_in l.grammar) (names_used_by_all (forms (drop l.item-index (map form_of l.items)))) rule)
      ≡ (has_flag l.fn.self.flags.items rule
      || refer_to (rules_in l.grammar) (names_used_by_all (forms (map form_of l.items))) rule);
}
