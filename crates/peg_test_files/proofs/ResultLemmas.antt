-- Results, one after the other.
use Rattle.std.proofs.Common.{◌≡◌, ◌∙◌, ℕ, List, [], ◌++◌, ap, append_assoc, map, refl, string_bytes, sym}
use Rattle.std.specs.List.{flat_map, fold}
use Rattle.std.proofs.lemmas.Grind.{flat_map-append}
use Rattle.std.proofs.lemmas.List.{append-nil, map-append}
use Rattle.std.proofs.lemmas.List.Sums.{fold-append}
use Rattle.peg_explain_files.specs.Verdicts.{worse}
use Rattle.peg_test_files.specs.TestResults.{AddsTrials}
use Rattle.peg_test_files.specs.Trials.{trial_end, trial_fault, trial_message, trial_verdict}
use Rattle.peg_test_files.specs.declared.ends.TestEnd.{TestEnd}
use Rattle.peg_test_files.specs.declared.results.Results.{Results}
use Rattle.peg_test_files.specs.declared.trial.Trial.{Trial}

-- nothing is added
pub Adds-none : (a : Results) → AddsTrials [] a a
Adds-none a = record {
  lines = sym (append-nil a.lines.items);
  faults = sym (append-nil (string_bytes a.ended.faults));
  verdict = refl;
  ends = sym (append-nil a.ends.items);
}

-- what is added before and after
pub Adds-trans : (xs ys : List Trial) (a b c : Results) → AddsTrials xs a b → AddsTrials ys b c → AddsTrials (xs ++ ys) a c
Adds-trans xs ys a b c first second = record {
  lines = second.lines
      ∙ (ap (λ (l : List ℕ). l ++ flat_map trial_message ys) first.lines
      ∙ (append_assoc a.lines.items _ _
      ∙ ap (λ (l : List ℕ). a.lines.items ++ l) (sym (flat_map-append trial_message xs ys))));
  faults = second.faults
      ∙ (ap (λ (l : List ℕ). l ++ flat_map trial_fault ys) first.faults
      ∙ (append_assoc (string_bytes a.ended.faults) _ _
      ∙ ap (λ (l : List ℕ). string_bytes a.ended.faults ++ l) (sym (flat_map-append trial_fault xs ys))));
  verdict = second.verdict
      ∙ (ap (λ v. fold (λ worst trial. worse worst (trial_verdict trial)) v ys) first.verdict
      ∙ sym (fold-append (λ worst trial. worse worst (trial_verdict trial)) a.ended.verdict xs ys));
  ends = second.ends
      ∙ (ap (λ (l : List TestEnd). l ++ map trial_end ys) first.ends
      ∙ (append_assoc a.ends.items _ _ ∙ ap (λ (l : List TestEnd). a.ends.items ++ l) (sym (map-append trial_end xs ys))));
}
