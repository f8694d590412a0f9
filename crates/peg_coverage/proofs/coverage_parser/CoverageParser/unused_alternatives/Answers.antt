use Rattle.std.proofs.Common.{◌≡◌, ◌∙◌, ◌+◌, ◌*◌, ◌<◌, ap, arith, false, length, map, sym, true}
use Rattle.peg_bytes.specs.Extent.{extent}
use Rattle.peg_tree.specs.Selected.{has_rule}
use Rattle.peg_coverage.specs.Unused.{alternative_use}
use Rattle.peg_coverage.proofs.UnusedLemmas.{none-unused, one-unused}
use Rattle.peg_coverage.proofs.coverage_parser.CoverageParser.unused_alternatives.Goals as goal
use Rattle.peg_coverage.proofs.coverage_parser.CoverageParser.unused_alternatives.Goals.{then-not-contains+in_ok-push, else-not-contains}

pub alternatives-preserved : goal.alternatives-preserved
alternatives-preserved c =
    let used = c.args.used.now in
    let own = c.args.self.now.own_rules in
    let spans = c.args.self.now.alternatives.items in
    let number = c.alternatives.number in
    let same : own + (2 * number + 1) ≡ own + 2 * number + 1 = omega arith in
    elim c.if-not-contains.branch [
      | then-not-contains+in_ok-push w ↦
          let absent : has_rule used (own + (2 * number + 1)) ≡ false =
          ap (has_rule used) same ∙ sym c.contains.ensures ∙ w.if-not-contains.true in
          let within : number < length spans = omega (arith, c.alternatives-test.true, c.len-number-end.ensures) in
          ap (λ v. map alternative_use v.items) w.unused-is
          ∙ ap (map alternative_use) w.in_ok-push.ensures.items
          ∙ one-unused spans own used number w.index.result.now w.contains-then-not-contains.result
          c.alternatives.unused.items within (sym w.index.ensures) absent w.contains-then-not-contains.ensures
          c.alternatives.invariant
      | else-not-contains w ↦
          let there : has_rule used (own + (2 * number + 1)) ≡ true =
          ap (has_rule used) same ∙ sym c.contains.ensures ∙ w.if-not-contains.false in
          ap (λ v. map alternative_use v.items) w.unused-is
          ∙ c.alternatives.invariant
          ∙ sym (none-unused (map extent spans) own used number there)
    ]
