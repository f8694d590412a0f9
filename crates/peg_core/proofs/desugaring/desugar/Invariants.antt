use Rattle.std.proofs.Common.{◌≡◌, ◌+◌, ◌*◌, ◌≤◌, true, length, drop}
use Rattle.peg_semantics.specs.Grammar.{max_parts}
use Rattle.peg_grammar.specs.GrammarRules.{rules_in}
use Rattle.peg_semantics.specs.Rules.{counts, references}
use Rattle.peg_core.specs.CoreParts.{are_defined, are_in_range}
use Rattle.peg_core.specs.Layout.{max_forms, max_forms_each}
use Rattle.peg_core.proofs.RuleLemmas.{body_weights, RulesSoFar}
use Rattle.peg_core.proofs.desugaring.desugar.Given as goal

-- the forms of the rules so far were appended, and those of the others are within the limit
abbrev pub invariant-loop-rule : goal.invariant-loop-rule
invariant-loop-rule l = record {
  room : length l.builder.forms + max_forms_each * body_weights (drop l.rule (rules_in l.grammar)) ≤ max_forms;
  few : length l.builder.spans + body_weights (drop l.rule (rules_in l.grammar)) ≤ max_parts;
  rules : l.builder.rules ≡ length (rules_in l.grammar);
  counted : length l.bodies.items ≡ l.rule;
  defined : are_defined (rules_in l.grammar) (references (drop l.rule (rules_in l.grammar))) ≡ true;
  ranged : are_in_range (counts (drop l.rule (rules_in l.grammar))) ≡ true;
  so_far : RulesSoFar (rules_in l.grammar) (drop l.rule (rules_in l.grammar)) l.bodies.items l.builder;
}
