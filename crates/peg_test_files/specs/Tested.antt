-- What is printed for a question about texts in folders.
use Rattle.std.specs.Prelude.{◌≡◌, ◌≢◌, ℕ, ◌+◌, List, [], ◌++◌, Option, None, Some, Result, Ok, Err, map, string_bytes, unwrap_or}
use Rattle.std.specs.List.{flat_map}
use Rattle.std.specs.Io.KnownBytes.{Appends, Keeps}
use Rattle.std.specs.declared.alloc.Global.{Global}
use Rattle.std.specs.declared.vec.Vec.{Vec}
use Rattle.peg_explain_files.specs.Contents.{IsContentOf}
use Rattle.peg_explain_files.specs.Explained.{IsExplained, OrOutOfMemory, no_start_message}
use Rattle.peg_explain_files.specs.Printings.{WritesAlone}
use Rattle.peg_explain_files.specs.declared.content.Content.TheVariants.{Bytes}
use Rattle.peg_explain_files.specs.declared.ended.Ended.{Ended}
use Rattle.peg_explain_files.specs.declared.ended.ExplainFault.{ExplainFault}
use Rattle.peg_explain_files.specs.declared.ended.ExplainFault.TheVariants.{Write, Memory}
use Rattle.peg_explain_files.specs.declared.ended.Verdict.TheVariants.{Matches, NoSuchStart}
use Rattle.peg_explain_files.specs.declared.printing.Printing.TheVariants.{All}
use Rattle.peg_io.specs.NamedFile.{NamedFile}
use Rattle.peg_io.specs.Transfer.{AppendsProperPrefix}
use Rattle.peg_metagrammar.specs.Notation.{max_file_bytes}
use Rattle.peg_parser.specs.Accepts.{Accepts}
use Rattle.peg_semantics.specs.Rules.{Rule}
use Rattle.peg_semantics.specs.Starts.{start_name}
use Rattle.peg_test_files.specs.FolderTexts.{AreTrialsInAll, TestSetting}
use Rattle.peg_test_files.specs.TestCounts.{count_line}
use Rattle.peg_test_files.specs.TestQuestions.{TestQuestion, grammar_question}
use Rattle.peg_test_files.specs.Trials.{trial_end, trial_fault, trial_message, worst_after}
use Rattle.peg_test_files.specs.declared.trial.Trial.{Trial}

-- what is printed on the output: the messages, in order, and the line with the counts
abbrev pub printed_trials : List Trial → List ℕ
printed_trials trials = flat_map trial_message trials ++ count_line (map trial_end trials)

-- The messages and the counts are written, the lines for standard error are those of the files and folders, and the
-- verdict is the worst one. If a write fails, a proper prefix is written; if an allocation fails, nothing.
abbrev pub WritesTrials : List Trial → (old new : Option (List ℕ)) → Result Ended ExplainFault → Type 0
WritesTrials trials old new (Ok ended) = Appends old new (printed_trials trials)
    × (string_bytes ended.faults ≡ flat_map trial_fault trials)
    × (ended.verdict ≡ worst_after Matches trials)
WritesTrials trials old new (Err Write) = AppendsProperPrefix old new (printed_trials trials)
WritesTrials trials old new (Err Memory) = Keeps old new

-- this is read of the grammar file, which is read up to its limit and one byte more
abbrev pub IsGrammarFile : NamedFile → (file : List ℕ) → Type 0
IsGrammarFile named file =
    (held : Vec ℕ Global) × (held.items ≡ file) × IsContentOf (max_file_bytes + 1) named (Bytes held)

-- no text is tested: the verdict is another than for texts that match
abbrev pub IsUntested : Result Ended ExplainFault → Type 0
IsUntested (Ok ended) = ended.verdict ≢ Matches
IsUntested (Err Write) = Unit {0}
IsUntested (Err Memory) = ⊥

-- what texts are tested by, for a question
abbrev pub setting_of : TestQuestion → (file_at : List ℕ → NamedFile) → (file : List ℕ) → List Rule → TestSetting
setting_of question file_at file rules = record {
  named = file_at;
  file = file;
  rules = rules;
  start = question.start;
  memo = question.memo;
  steps = question.steps;
  style = question.style;
}

-- What is written for a question: what `explain` writes of a grammar file that can't be opened or read or that is refused;
-- that no rule has the name of the start; or what is found in the folders.
pub data Tests (question : TestQuestion) (file_at : List ℕ → NamedFile) (old new : Option (List ℕ))
    (result : Result Ended ExplainFault) : Type 0 where
  untested : IsExplained (grammar_question question) All file_at None old new result → IsUntested result
      → Tests question file_at old new result
  no_such_start : {file : List ℕ} {rules : List Rule} → IsGrammarFile (file_at question.grammar) file
      → Accepts file rules → start_name rules question.start ≡ None
      → WritesAlone All (no_start_message question.grammar (unwrap_or question.start [])) NoSuchStart old new result
      → Tests question file_at old new result
  tested : {file : List ℕ} {rules : List Rule} {from : List ℕ} {trials : List Trial}
      → IsGrammarFile (file_at question.grammar) file → Accepts file rules → start_name rules question.start ≡ Some from
      → AreTrialsInAll (setting_of question file_at file rules) question.folders trials
      → WritesTrials trials old new result → Tests question file_at old new result

-- what is written for a question over files and folders by name, or nothing, since an allocation failed
abbrev pub IsTested : TestQuestion → (file_at : List ℕ → NamedFile) → (old new : Option (List ℕ))
    → Result Ended ExplainFault → Type 0
IsTested question file_at old new result = OrOutOfMemory old new result (Tests question file_at old new result)
