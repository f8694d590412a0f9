-- What is found of the texts in folders.
use Rattle.std.specs.Prelude.{◌≡◌, ℕ, List, [], ◌∷◌, ◌++◌, IfSome, None, Option, Some}
use Rattle.std.specs.Borrow.{Bor}
use Rattle.peg_explain.specs.declared.style.ItemStyle.{ItemStyle}
use Rattle.peg_explain_files.specs.Entries.{entry_name}
use Rattle.peg_explain_files.specs.TextReports.{IsReport, IsReportOfName}
use Rattle.peg_explain_files.specs.declared.entry.Entry.{Entry}
use Rattle.peg_io.specs.NamedFile.{NamedFile, IsNoFolder, names_in}
use Rattle.peg_messages.specs.FileNames.{shown_name}
use Rattle.peg_semantics.specs.Rules.{Rule}
use Rattle.peg_test_files.specs.TestNames.{path_of, wanted_of}
use Rattle.peg_test_files.specs.declared.trial.Trial.{Trial}
use Rattle.peg_test_files.specs.declared.trial.Trial.TheVariants.{Ignored, Unlisted, Tried}
use Rattle.peg_test_files.specs.declared.wanted.Wanted.{Wanted}

-- What texts are tested by: the files and folders by name, a grammar file and its rules; the start rule, the capacity of
-- the memo and the limit of steps; and how messages write items.
pub record TestSetting : Type 0 where
  pub named : List ℕ → NamedFile
  pub file : List ℕ
  pub rules : List Rule
  pub start : Option (List ℕ)
  pub memo : ℕ
  pub steps : Option ℕ
  pub style : ItemStyle

-- a text in the file with a name is tried, and what is reported of it is right
pub record IsTried (setting : TestSetting) (name : List ℕ) (wanted : Wanted) (trial : Trial) : Type 0 where
  pub entry : Entry
  pub named : entry_name entry ≡ name
  pub right : IsReportOfName (IsReport setting.file setting.rules setting.style setting.start setting.memo setting.steps
      (shown_name name)) setting.named name entry.report
  pub is : trial ≡ Tried wanted entry

-- what is found of the file with a name, by what is asked of it
abbrev pub IsTrialBy : TestSetting → (name : List ℕ) → Option Wanted → Trial → Type 0
IsTrialBy setting name None trial = trial ≡ Ignored
IsTrialBy setting name (Some wanted) trial = IsTried setting name wanted trial

-- what is found of the file with a name in a folder
abbrev pub IsTrialOf : TestSetting → (folder name : List ℕ) → Trial → Type 0
IsTrialOf setting folder name trial = IsTrialBy setting (path_of folder name) (wanted_of name) trial

-- what is found of the files with these names in a folder, in order
pub data AreTrialsOf (setting : TestSetting) (folder : List ℕ) : (names : List (List ℕ)) → List Trial → Type 0 where
  no_name : AreTrialsOf setting folder [] []
  one_more_name : (names : List (List ℕ)) (name : List ℕ) (trials : List Trial) (trial : Trial)
      → AreTrialsOf setting folder names trials → IsTrialOf setting folder name trial
      → AreTrialsOf setting folder (names ++ name ∷ []) (trials ++ trial ∷ [])

-- What is found in a folder: the files that it has, in order, or that it can't be listed. A folder whose names are
-- specified is listed, and what is specified to be no folder isn't.
pub data AreTrialsIn (setting : TestSetting) (folder : List ℕ) (trials : List Trial) : Type 0 where
  listed : {names : List (List ℕ)} → ¬ IsNoFolder (setting.named folder)
      → IfSome (names_in (setting.named folder)) (λ specified. names ≡ specified)
      → AreTrialsOf setting folder names trials → AreTrialsIn setting folder trials
  unlisted : {trial : Trial} {entry : Bor (List ℕ)} → names_in (setting.named folder) ≡ None → entry.now ≡ folder
      → trial ≡ Unlisted entry → trials ≡ trial ∷ [] → AreTrialsIn setting folder trials

-- what is found in the folders with these names, in order
pub data AreTrialsInAll (setting : TestSetting) : (folders : List (List ℕ)) → List Trial → Type 0 where
  no_folder : AreTrialsInAll setting [] []
  one_more_folder : (folders : List (List ℕ)) (folder : List ℕ) (trials more : List Trial)
      → AreTrialsInAll setting folders trials → AreTrialsIn setting folder more
      → AreTrialsInAll setting (folders ++ folder ∷ []) (trials ++ more)
