use Rattle.std.proofs.Common.{◌≡◌, ℕ, IfOk, List, map, string_bytes, subst}
use Rattle.serde_json.specs.Written.{compact_text}
use Rattle.peg_coverage.specs.Unused.{alternative_use, rule_use}
use Rattle.peg_coverage.specs.declared.coverage.UnusedAlternative.{UnusedAlternative}
use Rattle.peg_coverage.specs.declared.coverage.UnusedRule.{UnusedRule}
use Rattle.peg_grammar.specs.GrammarRules.{rules_in}
use Rattle.peg_json.specs.CoverageText.{coverage_data, named_use}
use Rattle.peg_json.proofs.CoverageLemmas.{coverage-without_floats}
use Rattle.peg_listings.proofs.SentText.{value-text}
use Rattle.peg_json.proofs.coverage_text.coverage_json.Goals as goal

pub returns : goal.returns
returns c =
    let file = c.args.file.now in
    let coverage = c.args.coverage.now in
    let rules = λ (numbers : List UnusedRule). map (named_use (rules_in c.args.grammar.now)) (map rule_use numbers) in
    let IsText = λ (stopped : List ℕ) (numbers : List UnusedRule) (spans : List UnusedAlternative). IfOk c.text_of.result
    (λ text. string_bytes text
    ≡ compact_text (coverage_data file coverage.texts coverage.matched stopped (rules numbers) (map alternative_use spans))) in
    let sent = value-text c.text_of.result (coverage_data file coverage.texts coverage.matched c.deref.result.now
    (rules c.deref-2.result.now) (map alternative_use c.deref-3.result.now))
    (coverage-without_floats file coverage.texts coverage.matched c.deref.result.now (rules c.deref-2.result.now)
    (map alternative_use c.deref-3.result.now)) c.text_of.ensures in
    subst (λ (stopped : List ℕ). IsText stopped coverage.unused_rules.items coverage.unused_alternatives.items)
    c.deref.ensures.value
    (subst (λ (numbers : List UnusedRule). IsText c.deref.result.now numbers coverage.unused_alternatives.items) c.deref-2.ensures.value
    (subst (λ (spans : List UnusedAlternative). IsText c.deref.result.now c.deref-2.result.now spans) c.deref-3.ensures.value sent))
