use Rattle.std.proofs.Common.{◌≡◌, None, find, length, not, take}
use Rattle.peg_grammar.specs.GrammarRules.{rules_in}
use Rattle.peg_semantics.specs.Rules.{is_defined}
use Rattle.peg_replies.specs.PrintedNodes.{names_listed}
use Rattle.peg_replies.proofs.nodes.unknown_in.Given as goal

-- the names so far are rules'
abbrev pub invariant-names : goal.invariant-names
invariant-names l =
    (goal.iterator-names).can_next l.name-iterator × (goal.iterator-names).is_finite l.name-iterator
    × (find (λ name. not (is_defined (rules_in l.grammar) name)) (take (length l.yielded) (names_listed l.list)) ≡ None)
