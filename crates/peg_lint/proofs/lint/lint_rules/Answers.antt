use Rattle.std.proofs.Common.{◌≡◌, ◌+◌, ◌<◌, ℕ, List, inl, inr, subst, arith}
use Rattle.std.proofs.lemmas.Bool.{cases_lt}
use Rattle.peg_grammar.specs.GrammarRules.{rules_in}
use Rattle.peg_lint.specs.Linting.{FindsRule, FindsRules}
use Rattle.peg_lint.specs.declared.warning.Warning.{Warning}
use Rattle.peg_lint.proofs.FileLemmas.{Adds-same, Adds-then, Adds-weaker, FindsRule-later}
use Rattle.peg_lint.proofs.lint.lint_rules.Goals as goal

pub rules-init : goal.rules-init
rules-init c =
    let rules = rules_in c.args.grammar.now in
    Adds-same rules (λ (now : List Warning). (number : ℕ) → number < 0 → FindsRule rules number now)
    c.args.found.now.items (λ number less. absurd (omega (arith, less)))

pub rules-preserved : goal.rules-preserved
rules-preserved c =
    let rules = rules_in c.args.grammar.now in
    let i = c.rules.rule in
    let l0 = c.args.found.now.items in
    let l1 = c.rules.found.items in
    let l2 = c.lint_rule.new.found.items in
    Adds-then rules (λ (now : List Warning). (number : ℕ) → number < i → FindsRule rules number now) (FindsRule rules i)
    (λ (now : List Warning). (number : ℕ) → number < i + 1 → FindsRule rules number now) l0 l1 l2
    c.rules.invariant c.in_ok-lint_rule.ensures
    (λ keeps so_far here number less. elim (cases_lt number i) [
      | inl before ↦ FindsRule-later l1 l2 keeps rules number (so_far number before)
      | inr after ↦
          let same : i ≡ number = omega (arith, less, after) in subst (λ n. FindsRule rules n l2) same here
    ])

pub returns : goal.returns
returns c =
    let rules = rules_in c.args.grammar.now in
    let i = c.rules.rule in
    Adds-weaker rules (λ (now : List Warning). (number : ℕ) → number < i → FindsRule rules number now) (FindsRules rules)
    c.args.found.now.items c.rules.found.items
    (λ so_far number within. so_far number (omega (arith, within, c.rules-test.false, c.rules-rule-end.ensures.count)))
    c.rules.invariant
