use Rattle.std.proofs.Common.{◌≡◌, ◌+◌, ◌<◌, ℕ, List, inl, inr, subst, arith}
use Rattle.std.proofs.lemmas.Bool.{cases_lt}
use Rattle.peg_grammar.specs.GrammarRules.{rules_in}
use Rattle.peg_lint.specs.Linting.{FindsInFile, FindsRuleText}
use Rattle.peg_lint.specs.declared.warning.Warning.{Warning}
use Rattle.peg_lint.proofs.FileLemmas.{AddsIn-same, AddsIn-then, AddsIn-weaker, FindsRuleText-later}
use Rattle.peg_lint.proofs.file_lint.lint_rule_texts.Goals as goal

pub rules-init : goal.rules-init
rules-init c =
    let file = c.args.file.now in
    let rules = rules_in c.args.grammar.now in
    AddsIn-same file rules (λ (now : List Warning). (number : ℕ) → number < 0 → FindsRuleText file rules number now)
    c.args.found.now.items (λ number less. absurd (omega (arith, less)))

pub rules-preserved : goal.rules-preserved
rules-preserved c =
    let file = c.args.file.now in
    let rules = rules_in c.args.grammar.now in
    let i = c.rules.rule in
    let l0 = c.args.found.now.items in
    let l1 = c.rules.found.items in
    let l2 = c.lint_rule_text.new.found.items in
    AddsIn-then file rules (λ (now : List Warning). (number : ℕ) → number < i → FindsRuleText file rules number now)
    (FindsRuleText file rules i)
    (λ (now : List Warning). (number : ℕ) → number < i + 1 → FindsRuleText file rules number now) l0 l1 l2
    c.rules.invariant c.in_ok-lint_rule_text.ensures
    (λ keeps so_far here number less. elim (cases_lt number i) [
      | inl before ↦ FindsRuleText-later l1 l2 keeps file rules number (so_far number before)
      | inr after ↦
          let same : i ≡ number = omega (arith, less, after) in
          subst (λ n. FindsRuleText file rules n l2) same here
    ])

pub returns : goal.returns
returns c =
    let file = c.args.file.now in
    let rules = rules_in c.args.grammar.now in
    let i = c.rules.rule in
    AddsIn-weaker file rules (λ (now : List Warning). (number : ℕ) → number < i → FindsRuleText file rules number now)
    (FindsInFile file rules) c.args.found.now.items c.rules.found.items
    (λ so_far number within. so_far number (omega (arith, within, c.rules-test.false, c.rules-rule-end.ensures.count)))
    c.rules.invariant
