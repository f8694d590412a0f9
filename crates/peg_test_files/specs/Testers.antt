-- Describes code: what tests texts, and what it adds to results.
use Rattle.std.specs.Prelude.{◌≡◌, ◌∷◌, [], ℕ, List, Some}
use Rattle.peg_explain.specs.Explainers.{IsExplainerOf}
use Rattle.peg_io.specs.NamedFile.{NamedFile}
use Rattle.peg_parser.specs.Parser.{start_named}
use Rattle.peg_semantics.specs.Rules.{Rule}
use Rattle.peg_semantics.specs.Starts.{start_name}
use Rattle.peg_test_files.specs.FolderTexts.{AreTrialsIn, AreTrialsInAll, AreTrialsOf, IsTrialOf, TestSetting}
use Rattle.peg_test_files.specs.TestResults.{AddsTrials, AreResultsOf}
use Rattle.peg_test_files.specs.declared.results.Results.{Results}
use Rattle.peg_test_files.specs.declared.tester.Tester.{Tester}
use Rattle.peg_test_files.specs.declared.trial.Trial.{Trial}

-- what a tester tests by, over files by name
abbrev pub setting_by : {O : Type 0} → (List ℕ → NamedFile) → (file : List ℕ) → (rules : List Rule) → Tester O → TestSetting
setting_by named file rules tester = record {
  named = named;
  file = file;
  rules = rules;
  start = start_named tester.options.now;
  memo = tester.options.now.memo;
  steps = tester.options.now.steps;
  style = tester.explainer.style;
}

-- a tester is made for a grammar file with these rules, and its start is one of them
abbrev pub IsTesterOf : {O : Type 0} → (file : List ℕ) → (rules : List Rule) → Tester O → Type 0
IsTesterOf file rules tester = IsExplainerOf file rules tester.explainer
    × ((from : List ℕ) × (start_name rules (start_named tester.options.now) ≡ Some from))

-- what is found of a file in a folder is added
abbrev pub AddsText : TestSetting → (folder name : List ℕ) → (before after : Results) → Type 0
AddsText setting folder name before after =
    (trial : Trial) × IsTrialOf setting folder name trial × AddsTrials (trial ∷ []) before after

-- what is found of the files with these names in a folder is added
abbrev pub AddsNames : TestSetting → (folder : List ℕ) → (names : List (List ℕ)) → (before after : Results) → Type 0
AddsNames setting folder names before after =
    (trials : List Trial) × AreTrialsOf setting folder names trials × AddsTrials trials before after

-- what is found in a folder is added
abbrev pub AddsFolder : TestSetting → (folder : List ℕ) → (before after : Results) → Type 0
AddsFolder setting folder before after =
    (trials : List Trial) × AreTrialsIn setting folder trials × AddsTrials trials before after

-- these are the results of the folders with these names
abbrev pub HasTested : TestSetting → (folders : List (List ℕ)) → Results → Type 0
HasTested setting folders results =
    (trials : List Trial) × AreTrialsInAll setting folders trials × AreResultsOf trials results
