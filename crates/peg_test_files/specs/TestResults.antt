-- Describes code: the results of a test so far, and how they are written.
use Rattle.std.specs.Prelude.{◌≡◌, ℕ, List, [], ◌++◌, Option, Result, Ok, Err, map, string_bytes}
use Rattle.std.specs.List.{flat_map}
use Rattle.std.specs.Io.KnownBytes.{Appends, Keeps}
use Rattle.peg_io.specs.Transfer.{AppendsProperPrefix}
use Rattle.peg_explain_files.specs.declared.ended.Ended.{Ended}
use Rattle.peg_explain_files.specs.declared.ended.ExplainFault.{ExplainFault}
use Rattle.peg_explain_files.specs.declared.ended.ExplainFault.TheVariants.{Write, Memory}
use Rattle.peg_explain_files.specs.declared.ended.Verdict.TheVariants.{Matches}
use Rattle.peg_test_files.specs.TestCounts.{count_line}
use Rattle.peg_test_files.specs.Trials.{trial_end, trial_fault, trial_message, worst_after}
use Rattle.peg_test_files.specs.declared.results.Results.{Results}
use Rattle.peg_test_files.specs.declared.trial.Trial.{Trial}

-- what is found of some files and folders is added: messages, lines for standard error, verdicts and ends, in order
pub record AddsTrials (trials : List Trial) (before after : Results) : Type 0 where
  pub lines : after.lines.items ≡ before.lines.items ++ flat_map trial_message trials
  pub faults : string_bytes after.ended.faults ≡ string_bytes before.ended.faults ++ flat_map trial_fault trials
  pub verdict : after.ended.verdict ≡ worst_after before.ended.verdict trials
  pub ends : after.ends.items ≡ before.ends.items ++ map trial_end trials

-- nothing is found yet
pub record AreNoResults (results : Results) : Type 0 where
  pub lines : results.lines.items ≡ []
  pub faults : string_bytes results.ended.faults ≡ []
  pub verdict : results.ended.verdict ≡ Matches
  pub ends : results.ends.items ≡ []

-- these are the results of some files and folders
abbrev pub AreResultsOf : List Trial → Results → Type 0
AreResultsOf trials results = (none : Results) × AreNoResults none × AddsTrials trials none results

-- the bytes that are written for some results
abbrev pub written_results : Results → List ℕ
written_results results = results.lines.items ++ count_line results.ends.items

-- The results are written as a whole. If a write fails, a proper prefix is written; if an allocation fails, nothing.
abbrev pub WritesResults : Results → (old new : Option (List ℕ)) → Result Ended ExplainFault → Type 0
WritesResults results old new (Ok ended) = Appends old new (written_results results) × (ended ≡ results.ended)
WritesResults results old new (Err Write) = AppendsProperPrefix old new (written_results results)
WritesResults results old new (Err Memory) = Keeps old new
