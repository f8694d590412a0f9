use Rattle.std.proofs.Common.{◌≡◌, ℕ, ◌<◌, length, not, take}
use Rattle.peg_grammar.specs.GrammarRules.{rules_in}
use Rattle.peg_tree.specs.Selected.{has_rule}
use Rattle.peg_replies.specs.PrintedNodes.{is_listed, names_listed}
use Rattle.peg_replies.proofs.nodes.other_rules.Given as goal

-- the set has all rules but those of the names so far
abbrev pub invariant-names : goal.invariant-names
invariant-names l =
    (goal.iterator-names).can_next l.name-iterator × (goal.iterator-names).is_finite l.name-iterator
    × (length l.set ≡ length (rules_in l.grammar))
    × ((rule : ℕ) → rule < length (rules_in l.grammar) → has_rule l.set rule
    ≡ not (is_listed (rules_in l.grammar) (take (length l.yielded) (names_listed l.list)) rule))
