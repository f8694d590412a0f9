use Rattle.std.proofs.Common.{◌∙◌, IfOk, IfSome, List, OnOk, Option, Result, Some, sym, subst, ℕ}
use Rattle.peg_coverage.specs.Covered.{HasCovered, settings_of}
use Rattle.peg_coverage.specs.Steps.{IsWithinSteps}
use Rattle.peg_coverage.specs.declared.text_match.TextMatch.{TextMatch}
use Rattle.peg_diagnostics.specs.Marked.{marked_rules}
use Rattle.peg_coverage_files.specs.CoveredTexts.{HasCoveredText}
use Rattle.peg_coverage_files.specs.declared.counts.TextEnd.{TextEnd}
use Rattle.peg_coverage_files.specs.declared.fault.CoveringFault.{CoveringFault}
use Rattle.peg_coverage_files.proofs.CoveringLemmas.{read-same, text-covered}
use Rattle.peg_coverage_files.proofs.covered.CoveredTexts.add.Goals as goal

pub returns-clause-adds : goal.returns-clause-adds
returns-clause-adds c rules start is at =
    let text = c.args.text.now in
    let settings = settings_of c.args.options.now in
    let before = c.args.self.now.used in
    let after = c.cover-covered.new.used in
    let result = c.cover-covered.result in
    let covered = subst (λ (from : Option (List ℕ)). IfOk result (λ (match : TextMatch). IfSome from (λ name.
    HasCovered rules text name before after match))) at (c.cover-covered.ensures.covered rules is) in
    let within = subst (λ (from : Option (List ℕ)). OnOk result (IfSome from (λ name.
    IsWithinSteps (marked_rules rules) text name settings.steps))) at (c.cover-covered.ensures.within rules is) in
    let parsed = text-covered rules start settings c.args.needed (Some text) text before after result (read-same text)
    ((c.cover-covered.ensures.faults rules is).long start at) covered c.cover-covered.ensures.unchanged
    (c.cover-covered.ensures.limit rules is).limited (c.cover-covered.ensures.limit rules is).enough within in
    record {
      end = c.in_ok-end.end;
      covered = subst (λ (r : Result TextEnd CoveringFault). IfOk r (HasCoveredText rules start settings c.args.needed
          (Some text) before after)) (sym c.to_end.ensures.value ∙ c.in_ok-end.was) parsed;
      texts = c.in_ok-count.ensures.texts;
      matched = c.in_ok-count.ensures.matched;
      stopped = c.in_ok-count.ensures.stopped;
    }
