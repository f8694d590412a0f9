use Rattle.std.proofs.Common.{map, drop}
use Rattle.peg_grammar.specs.GrammarRules.{rules_in}
use Rattle.peg_grammar.specs.Written.{form_of}
use Rattle.peg_semantics.specs.Form.{forms, names_used_by_all}
use Rattle.peg_lint.specs.Reaching.{AreNamesMarked, MarksOnly, ReachesMore}
use Rattle.std.proofs.Common.{List, Bool, ℕ}
use Rattle.peg_lint.specs.Reaching.{IsMarked}
use Rattle.peg_lint.proofs.reach.Reach.+names.Given as goal

-- If the names of the remaining items are marked later, so are those of all items. If no others are, no others than those
-- of all items are.
abbrev pub invariant-add_all_names-loop-item : goal.invariant-add_all_names-loop-item
invariant-add_all_names-loop-item l = record {
  more : ReachesMore l.fn.self l.self;
  marked : (marks : List Bool) → ((number : ℕ) → IsMarked l.self.marks.items number → IsMarked marks number)
      → AreNamesMarked (rules_in l.grammar) marks (names_used_by_all (forms (drop l.item-index (map form_of l.items))))
      → AreNamesMarked (rules_in l.grammar) marks (names_used_by_all (forms (map form_of l.items)));
  only : (marks : List Bool)
      → MarksOnly (rules_in l.grammar) (names_used_by_all (forms (drop l.item-index (map form_of l.items))))
      l.self.marks.items marks
      → MarksOnly (rules_in l.grammar) (names_used_by_all (forms (map form_of l.items))) l.fn.self.marks.items marks;
}
