use Rattle.std.proofs.Common.{◌≡◌, ◌++◌, drop, map}
use Rattle.peg_bytes.specs.Extent.{extent}
use Rattle.peg_diagnostics.specs.Marked.{extents_of_alternatives}
use Rattle.peg_grammar.specs.GrammarRules.{rules_in}
use Rattle.peg_diagnostics.proofs.alternatives.alternative_spans.Given as goal

-- the spans so far and those of the remaining rules are those of all rules
abbrev pub invariant-loop-rule : goal.invariant-loop-rule
invariant-loop-rule l =
    map extent l.spans.items ++ extents_of_alternatives (drop l.rule (rules_in l.grammar))
    ≡ extents_of_alternatives (rules_in l.grammar)
