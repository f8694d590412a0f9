use Rattle.std.proofs.Common.{◌≡◌, ◌++◌, drop, map}
use Rattle.peg_bytes.specs.Extent.{extent}
use Rattle.peg_grammar.specs.GrammarRules.{rules_in}
use Rattle.peg_semantics.specs.Rules.{Rule}
use Rattle.peg_diagnostics.proofs.marked.add_name_spans.Given as goal

-- the spans so far and those of the remaining names are those at the start and those of all names
abbrev pub invariant-rules : goal.invariant-rules
invariant-rules l =
    map extent l.spans.items ++ map (λ (rule : Rule). rule.span) (drop l.rule (rules_in l.grammar))
    ≡ map extent l.initial.spans.items ++ map (λ (rule : Rule). rule.span) (rules_in l.grammar)
