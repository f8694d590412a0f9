use Rattle.std.proofs.Common.{◌≡◌, drop, map}
use Rattle.peg_grammar.specs.GrammarRules.{rules_in}
use Rattle.peg_grammar.specs.Written.{form_of}
use Rattle.peg_semantics.specs.Form.{forms}
use Rattle.peg_spacing.specs.Gaps.{either_gap, gap_of_alternatives}
use Rattle.peg_spacing.proofs.gaps.+gaps.Given as goal

-- the alternatives so far, and those that remain
abbrev pub invariant-gap_of_alternatives-loop-item : goal.invariant-gap_of_alternatives-loop-item
invariant-gap_of_alternatives-loop-item l =
    either_gap l.all (gap_of_alternatives (rules_in l.grammar) l.gaps (forms (drop l.item-index (map form_of l.items))))
    ≡ gap_of_alternatives (rules_in l.grammar) l.gaps (forms (map form_of l.items))
