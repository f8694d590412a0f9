-- What is found in folders, one after the other.
use Rattle.std.proofs.Common.{◌≡◌, ◌∙◌, ◌+◌, ◌<◌, ℕ, List, [], ◌∷◌, ◌++◌, Option, None, Some, IsSome, ap, get_or, length, map, refl}
use Rattle.std.proofs.Common.{string_bytes, subst, sym, take}
use Rattle.std.proofs.lemmas.List.{map-append, take_more}
use Rattle.std.specs.declared.alloc.Global.{Global}
use Rattle.std.specs.declared.string.String.{String}
use Rattle.peg_explain_files.specs.Entries.{entry_name}
use Rattle.peg_explain_files.specs.TextReports.{IsReport, IsReportOfName}
use Rattle.peg_explain_files.specs.declared.entry.Entry.{Entry}
use Rattle.peg_messages.specs.FileNames.{shown_name}
use Rattle.peg_test_files.specs.FolderTexts.{IsTrialBy, IsTrialOf, TestSetting, no_folder, no_name, one_more_folder, one_more_name}
use Rattle.peg_test_files.specs.TestNames.{path_of, wanted_of}
use Rattle.peg_test_files.specs.TestResults.{AddsTrials, AreNoResults}
use Rattle.peg_test_files.specs.Testers.{AddsFolder, AddsNames, AddsText, HasTested}
use Rattle.peg_test_files.specs.declared.results.Results.{Results}
use Rattle.peg_test_files.specs.declared.trial.Trial.{Trial}
use Rattle.peg_test_files.specs.declared.trial.Trial.TheVariants.{Tried}
use Rattle.peg_test_files.specs.declared.wanted.Wanted.{Wanted}
use Rattle.peg_test_files.proofs.ResultLemmas.{Adds-none, Adds-trans}

-- one more name
pub names-more : (texts : List (String Global)) (i : ℕ) (text : String Global) (name : List ℕ) → i < length texts
    → text ≡ get_or texts i text → name ≡ string_bytes text
    → map string_bytes (take i texts) ++ name ∷ [] ≡ map string_bytes (take (i + 1) texts)
names-more texts i text name within is same =
    ap (λ (n : List ℕ). map string_bytes (take i texts) ++ n ∷ []) (same ∙ ap string_bytes is)
    ∙ (sym (map-append string_bytes (take i texts) (get_or texts i text ∷ []))
    ∙ ap (map string_bytes) (sym (take_more texts i text within)))

-- no file of a folder is tested
pub names-none : (setting : TestSetting) (folder : List ℕ) (a : Results) → AddsNames setting folder [] a a
names-none setting folder a = ([], no_name, Adds-none a)

-- one more file of a folder
pub names-added : (setting : TestSetting) (folder name : List ℕ) (names : List (List ℕ)) (a b c : Results)
    → AddsNames setting folder names a b → AddsText setting folder name b c
    → AddsNames setting folder (names ++ name ∷ []) a c
names-added setting folder name names a b c first next = (
  first.0 ++ next.0 ∷ [],
  one_more_name names name first.0 next.0 first.1 next.1,
  Adds-trans first.0 (next.0 ∷ []) a b c first.2 next.2,
)

-- no folder is tested
pub folders-none : (setting : TestSetting) (a : Results) → AreNoResults a → HasTested setting [] a
folders-none setting a empty = ([], no_folder, (a, empty, Adds-none a))

-- one more folder
pub folders-added : (setting : TestSetting) (folder : List ℕ) (folders : List (List ℕ)) (b c : Results)
    → HasTested setting folders b → AddsFolder setting folder b c → HasTested setting (folders ++ folder ∷ []) c
folders-added setting folder folders b c first next = (
  first.0 ++ next.0,
  one_more_folder folders folder first.0 next.0 first.1 next.1,
  (first.2.0, first.2.1, Adds-trans first.0 next.0 first.2.0 b c first.2.2 next.2),
)

-- a text whose name asks for this is tried
pub text-tried : (setting : TestSetting) (folder name : List ℕ) (wanted : Wanted) (entry : Entry)
    → Some wanted ≡ wanted_of name → entry_name entry ≡ path_of folder name
    → IsReportOfName (IsReport setting.file setting.rules setting.style setting.start setting.memo setting.steps
    (shown_name (entry_name entry))) setting.named (entry_name entry) entry.report
    → IsTrialOf setting folder name (Tried wanted entry)
text-tried setting folder name wanted entry asked named right =
    subst (λ (found : Option Wanted). IsTrialBy setting (path_of folder name) found (Tried wanted entry)) asked
    record {
      entry = entry;
      named = named;
      right = subst (λ (n : List ℕ). IsReportOfName (IsReport setting.file setting.rules setting.style setting.start
          setting.memo setting.steps (shown_name n)) setting.named n entry.report) named right;
      is = refl;
    }

-- nothing is in what has nothing
pub is-none : {X : Type 0} (found : Option X) → (IsSome found → ⊥) → found ≡ None
is-none None none = refl
is-none (Some x) none = absurd (none refl)
