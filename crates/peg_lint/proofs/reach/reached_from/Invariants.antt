use Rattle.std.proofs.Common.{◌≡◌, ◌+◌, ◌⊎◌, ℕ, Contains, Some, length, slice_get}
use Rattle.peg_grammar.specs.GrammarRules.{rules_in}
use Rattle.peg_semantics.specs.Form.{names_used}
use Rattle.peg_semantics.specs.Rules.{Rule, name_of}
use Rattle.peg_lint.specs.Reaching.{AreMarked, AreNamesMarked, ArePendingRules, AreReached, IsMarked, IsNameMarked, unmarked}
use Rattle.peg_lint.proofs.reach.reached_from.Given as goal

-- Each marked rule is reached. It is pending, or the rules that it refers to are marked.
abbrev pub invariant-rules : goal.invariant-rules
invariant-rules l = record {
  count : length l.reach.marks.items ≡ length (rules_in l.grammar);
  start : IsNameMarked (rules_in l.grammar) l.reach.marks.items (name_of (rules_in l.grammar) l.fn.start);
  within : ArePendingRules l.reach;
  waiting : AreMarked l.reach;
  reached : AreReached (rules_in l.grammar) l.fn.start l.reach.marks.items;
  read : (number : ℕ) (rule : Rule) → slice_get (rules_in l.grammar) number ≡ Some rule
      → IsMarked l.reach.marks.items number
      → Contains l.reach.pending.items number
      ⊎ AreNamesMarked (rules_in l.grammar) l.reach.marks.items (names_used rule.body);
}

-- marking a rule makes it pending
abbrev pub decreases-rules : goal.decreases-rules
decreases-rules l = unmarked l.reach.marks.items + length l.reach.pending.items
