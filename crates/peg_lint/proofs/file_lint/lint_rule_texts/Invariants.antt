use Rattle.std.proofs.Common.{◌<◌, ℕ, List}
use Rattle.peg_grammar.specs.GrammarRules.{rules_in}
use Rattle.peg_lint.specs.Linting.{AddsIn, FindsRuleText}
use Rattle.peg_lint.specs.declared.warning.Warning.{Warning}
use Rattle.peg_lint.proofs.file_lint.lint_rule_texts.Given as goal

abbrev pub invariant-rules : goal.invariant-rules
invariant-rules l = AddsIn l.file (rules_in l.grammar)
    (λ (now : List Warning). (number : ℕ) → number < l.rule → FindsRuleText l.file (rules_in l.grammar) number now)
    l.fn.found.items l.found.items
