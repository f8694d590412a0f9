use Rattle.peg_grammar.specs.GrammarRules.{rules_in}
use Rattle.peg_lint.specs.Linting.{KeepsTrue}
use Rattle.peg_lint.proofs.lint.lint_rule_edges.Given as goal

abbrev pub invariant-rules : goal.invariant-rules
invariant-rules l = KeepsTrue (rules_in l.grammar) l.fn.found.items l.found.items
