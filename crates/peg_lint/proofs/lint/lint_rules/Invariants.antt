use Rattle.std.proofs.Common.{◌<◌, ℕ, List}
use Rattle.peg_grammar.specs.GrammarRules.{rules_in}
use Rattle.peg_lint.specs.Linting.{Adds, FindsRule}
use Rattle.peg_lint.specs.declared.warning.Warning.{Warning}
use Rattle.peg_lint.proofs.lint.lint_rules.Given as goal

abbrev pub invariant-rules : goal.invariant-rules
invariant-rules l = Adds (rules_in l.grammar)
    (λ (now : List Warning). (number : ℕ) → number < l.rule → FindsRule (rules_in l.grammar) number now) l.fn.found.items
    l.found.items
