use Rattle.std.proofs.Common.{◌≡◌, ◌∙◌, ◌+◌, ◌*◌, ◌++◌, ◌∷◌, ℕ, Bool, [], ap, arith, false, length, map, sym, true}
use Rattle.std.proofs.lemmas.List.{length-map, map-append}
use Rattle.peg_bytes.specs.Extent.{extent}
use Rattle.peg_diagnostics.specs.Marked.{alternatives_of_rules}
use Rattle.peg_diagnostics.proofs.MarkBounds.{length-extents_of_rules}
use Rattle.peg_tree.specs.Selected.{has_rule}
use Rattle.peg_coverage.specs.Unused.{RuleUse, rule_use, unmatched}
use Rattle.peg_coverage.proofs.UnusedLemmas.{none-unmatched, one-unmatched}
use Rattle.peg_coverage.proofs.coverage_parser.CoverageParser.unused_rules.Goals as goal
use Rattle.peg_coverage.proofs.coverage_parser.CoverageParser.unused_rules.Goals.{then-not-contains+in_ok-push, else-not-contains}

pub rules-preserved : goal.rules-preserved
rules-preserved c =
    let used = c.args.used.now in
    let first = c.args.self.now.own_rules + 2 * c.len.result in
    let rule = c.rules.rule in
    let entry : ℕ → RuleUse = λ n. (n, has_rule used n) in
    let matches : ℕ → Bool = λ n. has_rule used (first + n) in
    elim c.if-not-contains.branch [
      | then-not-contains+in_ok-push w ↦
          let absent : has_rule used (first + rule) ≡ false = sym c.contains.ensures ∙ w.if-not-contains.true in
          ap (λ v. map rule_use v.items) w.unused-is
          ∙ ap (map rule_use) w.in_ok-push.ensures.items
          ∙ map-append rule_use c.rules.unused.items
          (record { rule = rule; tried = w.contains-then-not-contains.result } ∷ [])
          ∙ (λ i. c.rules.invariant i ++ (rule, w.contains-then-not-contains.ensures i) ∷ [])
          ∙ sym (one-unmatched entry matches rule absent)
      | else-not-contains w ↦
          let there : has_rule used (first + rule) ≡ true = sym c.contains.ensures ∙ w.if-not-contains.false in
          ap (λ v. map rule_use v.items) w.unused-is ∙ c.rules.invariant ∙ sym (none-unmatched entry matches rule there)
    ]

pub returns : goal.returns
returns c rules is =
    let used = c.args.used.now in
    let spans = c.args.self.now.alternatives.items in
    let total : c.len.result ≡ alternatives_of_rules rules =
    omega (
      arith,
      c.len.ensures,
      length-map spans extent,
      ap length is.spans,
      length-extents_of_rules rules,
    ) in
    let count : c.rules.rule ≡ length rules = omega (arith, c.rules-test.false, c.rules.auto.rule-end, is.own) in
    let same : (n : ℕ) → c.args.self.now.own_rules + 2 * c.len.result + n ≡ length rules + (2 * alternatives_of_rules rules + n) =
    λ n. omega (arith, is.own, total) in
    c.rules.invariant
    ∙ (λ i. map (λ n. (n, has_rule used n)) (unmatched (λ n. has_rule used (same n i)) (count i)))
