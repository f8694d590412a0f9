use Rattle.std.proofs.Common.{◌∙◌}
use Rattle.peg_coverage.specs.Covered.{has_noted, is_made}
use Rattle.peg_coverage_files.proofs.CoveringLemmas.{noted-made, same-alternatives, same-rules, unused-below}
use Rattle.peg_coverage_files.proofs.covered.CoveredTexts.coverage.Goals as goal

pub returns-clause-covered : goal.returns-clause-covered
returns-clause-covered c rules start settings needed texts before is empty covered =
    let used = c.args.self.used in
    let counts = c.args.self.counts in
    let same = noted-made rules start settings needed texts before used counts.matched counts.stopped.items empty
    covered.have in
    record {
      parsed = covered.have.parsed;
      are = covered.have.are;
      count = covered.count;
      rules_unused = c.in_ok-unused_rules.ensures rules is
          ∙ same-rules rules (has_noted rules used) (is_made covered.have.parsed) same;
      alternatives_unused = c.in_ok-unused_alternatives.ensures rules is
          ∙ same-alternatives rules (has_noted rules used) (is_made covered.have.parsed) same;
    }

pub returns-clause-within : goal.returns-clause-within
returns-clause-within c rules is = record {
  rules_within = unused-below rules (has_noted rules c.args.self.used) c.in_ok-unused_rules.field-0.items
      (c.in_ok-unused_rules.ensures rules is);
  texts_within = c.args.self.counts.among;
}
