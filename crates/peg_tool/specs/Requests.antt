-- What the arguments of the program request.
use Rattle.std.specs.Prelude.{◌≡◌, Bool, false, true, ℕ, All, List, [], Option, map, option_map, string_bytes}
use Rattle.peg_explain.specs.Styles.{style_of}
use Rattle.peg_explain_files.specs.Names.{IsInput, name_end}
use Rattle.peg_explain_files.specs.Printings.{printing_of}
use Rattle.peg_explain_files.specs.Questions.{Question}
use Rattle.peg_explain_files.specs.declared.printing.Printing.{Printing}
use Rattle.peg_explain_records.specs.Questions.{RecordsQuestion}
use Rattle.peg_coverage.specs.declared.text_match.RequiredMatch.{RequiredMatch}
use Rattle.peg_coverage.specs.declared.text_match.RequiredMatch.TheVariants.{Whole, Prefix}
use Rattle.peg_io.specs.NamedFile.{NamedFile, IsMissing, is_readable}
use Rattle.peg_cli.specs.declared.words.Words.{Words}
use Rattle.peg_cli.specs.declared.words.Words.TheVariants.{Joined, Help, Table, Check, Code, Lint, LintMessages, Profile, Coverage, RecordCoverage, Explain, ExplainRecords, Test, Parse, Records}
use Rattle.peg_lint.specs.FileWarnings.{selection_of}
use Rattle.peg_lint_files.specs.LintQuestions.{LintQuestion}
use Rattle.peg_json.specs.TreeForms.{form_from_options}
use Rattle.peg_records.specs.declared.end.RecordEnd.{RecordEnd}
use Rattle.peg_records.specs.declared.end.RecordEnd.TheVariants as end
use Rattle.peg_record_files.specs.declared.filter.RecordFilter.{RecordFilter}
use Rattle.peg_record_files.specs.declared.filter.RecordFilter.TheVariants as filter
use Rattle.peg_test_files.specs.TestQuestions.{TestQuestion}
use Rattle.peg_replies.specs.PrintedNodes.{nodes_from_options}
use Rattle.peg_replies.specs.Task.{ToolTask, TableTask, CheckTask, CodeTask, LintTask, ProfileTask, ParseTask}

-- What is asked of the coverage of records: those of the texts with some names, or of the input without names. The
-- other fields are those of a coverage of texts.
pub record CoverQuestion : Type 0 where
  pub texts : List (List ℕ)
  pub end : RecordEnd
  pub start : Option (List ℕ)
  pub memo : ℕ
  pub steps : Option ℕ
  pub needed : RequiredMatch

-- A request: the default task on a grammar file and a text from one input, a help text, a task on the grammar file with
-- a name, messages about a grammar file, a task on a grammar file and a text with two names, what the texts with some
-- names or their records use of a grammar file, an explanation of texts or of the records of texts, a test of the texts
-- in folders, or a task on a grammar file and each record of texts with some names, or of the input without names.
pub data ToolRequest : Type 0 where
  InputRequest : ToolRequest
  HelpRequest : (text : List ℕ) → ToolRequest
  FileRequest : (task : ToolTask) → (g : List ℕ) → ToolRequest
  LintRequest : (question : LintQuestion) → ToolRequest
  FilesRequest : (task : ToolTask) → (g t : List ℕ) → ToolRequest
  CoverRequest : (start : Option (List ℕ)) → (memo : ℕ) → (steps : Option ℕ) → (needed : RequiredMatch) → (g : List ℕ)
      → (texts : List (List ℕ)) → ToolRequest
  CoverRecordsRequest : (g : List ℕ) → (question : CoverQuestion) → ToolRequest
  ExplainRequest : (question : Question) → (printing : Printing) → ToolRequest
  ExplainRecordsRequest : (question : RecordsQuestion) → ToolRequest
  TestRequest : (question : TestQuestion) → ToolRequest
  RecordsRequest : (task : ToolTask) → (g : List ℕ) → (texts : List (List ℕ)) → (end : RecordEnd)
      → (filter : RecordFilter) → ToolRequest

-- how much of a text has to match: the whole text, or with `--prefix` a prefix
abbrev pub needed_of : (prefix : Bool) → RequiredMatch
needed_of false = Whole
needed_of true = Prefix

-- How records end: with `--null` at a zero byte, otherwise at LF. With `--crlf` a CR before LF isn't part of a record.
abbrev pub end_of : (null crlf : Bool) → RecordEnd
end_of true crlf = end.Zero
end_of false true = end.CrLf
end_of false false = end.Line

-- which records have a line: with `--failed` those that don't match, with `--matched` those that do, otherwise all
abbrev pub filter_of : (failed matched : Bool) → RecordFilter
filter_of true matched = filter.Failed
filter_of false true = filter.Matched
filter_of false false = filter.All

-- what the arguments request
abbrev pub requested : Words → ToolRequest
requested Joined = InputRequest
requested (Help text) = HelpRequest (string_bytes text)
requested (Table g) = FileRequest TableTask (string_bytes g)
requested (Check g) = FileRequest CheckTask (string_bytes g)
requested (Code g) = FileRequest CodeTask (string_bytes g)
requested (Lint g start proved) =
    FileRequest (LintTask (option_map string_bytes start) (selection_of proved)) (string_bytes g)
requested (LintMessages g start proved) = LintRequest record {
  grammar = string_bytes g;
  start = option_map string_bytes start;
  selection = selection_of proved;
}
requested (Profile g t start memo steps) =
    FilesRequest (ProfileTask (option_map string_bytes start) memo steps) (string_bytes g) (string_bytes t)
requested (Coverage g texts start memo steps prefix) =
    CoverRequest (option_map string_bytes start) memo steps (needed_of prefix) (string_bytes g)
    (map string_bytes texts.items)
requested (RecordCoverage g texts null crlf start memo steps prefix) = CoverRecordsRequest (string_bytes g) record {
  texts = map string_bytes texts.items;
  end = end_of null crlf;
  start = option_map string_bytes start;
  memo = memo;
  steps = steps;
  needed = needed_of prefix;
}
requested (Explain g texts files_from null start memo steps rules terminals quiet) =
    ExplainRequest record {
      grammar = string_bytes g;
      texts = map string_bytes texts.items;
      list = option_map string_bytes files_from;
      end = name_end null;
      start = option_map string_bytes start;
      memo = memo;
      steps = steps;
      style = style_of rules terminals;
    } (printing_of quiet)
requested (ExplainRecords g texts null crlf start memo steps rules terminals quiet max_errors) = ExplainRecordsRequest record {
  grammar = string_bytes g;
  texts = map string_bytes texts.items;
  end = end_of null crlf;
  start = option_map string_bytes start;
  memo = memo;
  steps = steps;
  style = style_of rules terminals;
  printing = printing_of quiet;
  max_errors = max_errors;
}
requested (Test g folders start memo steps) = TestRequest record {
  grammar = string_bytes g;
  folders = map string_bytes folders.items;
  start = option_map string_bytes start;
  memo = memo;
  steps = steps;
  style = style_of false false;
}
requested (Parse g t start memo steps all rows no_tree show hide text) =
    FilesRequest (ParseTask (option_map string_bytes start) memo steps all (form_from_options rows no_tree)
    (nodes_from_options (option_map string_bytes show) (option_map string_bytes hide)) text)
    (string_bytes g) (string_bytes t)
requested (Records g texts null crlf failed matched start memo steps all rows no_tree show hide text) =
    RecordsRequest (ParseTask (option_map string_bytes start) memo steps all (form_from_options rows no_tree)
    (nodes_from_options (option_map string_bytes show) (option_map string_bytes hide)) text)
    (string_bytes g) (map string_bytes texts.items) (end_of null crlf) (filter_of failed matched)

-- ---- files of a request

-- The grammar file that a request names can't be opened. An explanation, a test or messages about a grammar report this
-- themselves.
abbrev pub LacksGrammar : ToolRequest → (file_at : List ℕ → NamedFile) → Type 0
LacksGrammar InputRequest file_at = ⊥
LacksGrammar (HelpRequest text) file_at = ⊥
LacksGrammar (FileRequest task g) file_at = IsMissing (file_at g)
LacksGrammar (LintRequest question) file_at = ⊥
LacksGrammar (FilesRequest task g t) file_at = IsMissing (file_at g)
LacksGrammar (CoverRequest start memo steps needed g texts) file_at = IsMissing (file_at g)
LacksGrammar (CoverRecordsRequest g question) file_at = IsMissing (file_at g)
LacksGrammar (ExplainRequest question printing) file_at = ⊥
LacksGrammar (ExplainRecordsRequest question) file_at = ⊥
LacksGrammar (TestRequest question) file_at = ⊥
LacksGrammar (RecordsRequest task g texts end filter) file_at = IsMissing (file_at g)

-- The text file that a request names can't be opened. For what texts use and for records, texts are opened after the
-- grammar is read.
abbrev pub LacksText : ToolRequest → (file_at : List ℕ → NamedFile) → Type 0
LacksText InputRequest file_at = ⊥
LacksText (HelpRequest text) file_at = ⊥
LacksText (FileRequest task g) file_at = ⊥
LacksText (LintRequest question) file_at = ⊥
LacksText (FilesRequest task g t) file_at = IsMissing (file_at t)
LacksText (CoverRequest start memo steps needed g texts) file_at = ⊥
LacksText (CoverRecordsRequest g question) file_at = ⊥
LacksText (ExplainRequest question printing) file_at = ⊥
LacksText (ExplainRecordsRequest question) file_at = ⊥
LacksText (TestRequest question) file_at = ⊥
LacksText (RecordsRequest task g texts end filter) file_at = ⊥

-- The files that a request names hold specified bytes, and reads of them don't fail. An explanation of records reports a
-- grammar file itself.
abbrev pub HasReadableFiles : ToolRequest → (file_at : List ℕ → NamedFile) → Type 0
HasReadableFiles InputRequest file_at = Unit {0}
HasReadableFiles (HelpRequest text) file_at = Unit {0}
HasReadableFiles (FileRequest task g) file_at = is_readable (file_at g) ≡ true
HasReadableFiles (LintRequest question) file_at = ⊥
HasReadableFiles (FilesRequest task g t) file_at = (is_readable (file_at g) ≡ true) × (is_readable (file_at t) ≡ true)
HasReadableFiles (CoverRequest start memo steps needed g texts) file_at =
    (is_readable (file_at g) ≡ true) × All (λ text. is_readable (file_at text) ≡ true) texts
HasReadableFiles (CoverRecordsRequest g question) file_at =
    (is_readable (file_at g) ≡ true) × All (λ text. is_readable (file_at text) ≡ true) question.texts
HasReadableFiles (ExplainRequest question printing) file_at = ⊥
HasReadableFiles (ExplainRecordsRequest question) file_at =
    All (λ text. is_readable (file_at text) ≡ true) question.texts
HasReadableFiles (TestRequest question) file_at = ⊥
HasReadableFiles (RecordsRequest task g texts end filter) file_at =
    (is_readable (file_at g) ≡ true) × All (λ text. is_readable (file_at text) ≡ true) texts

-- ---- explanations and tests

-- whether an explanation of whole texts is requested, which reports files that can't be opened or read itself
abbrev pub IsExplainRequest : ToolRequest → Type 0
IsExplainRequest InputRequest = ⊥
IsExplainRequest (HelpRequest text) = ⊥
IsExplainRequest (FileRequest task g) = ⊥
IsExplainRequest (LintRequest question) = ⊥
IsExplainRequest (FilesRequest task g t) = ⊥
IsExplainRequest (CoverRequest start memo steps needed g texts) = ⊥
IsExplainRequest (CoverRecordsRequest g question) = ⊥
IsExplainRequest (ExplainRequest question printing) = Unit {0}
IsExplainRequest (ExplainRecordsRequest question) = ⊥
IsExplainRequest (TestRequest question) = ⊥
IsExplainRequest (RecordsRequest task g texts end filter) = ⊥

-- whether a test of texts is requested, or messages about a grammar, which do so, too
abbrev pub IsTestRequest : ToolRequest → Type 0
IsTestRequest InputRequest = ⊥
IsTestRequest (HelpRequest text) = ⊥
IsTestRequest (FileRequest task g) = ⊥
IsTestRequest (LintRequest question) = Unit {0}
IsTestRequest (FilesRequest task g t) = ⊥
IsTestRequest (CoverRequest start memo steps needed g texts) = ⊥
IsTestRequest (CoverRecordsRequest g question) = ⊥
IsTestRequest (ExplainRequest question printing) = ⊥
IsTestRequest (ExplainRecordsRequest question) = ⊥
IsTestRequest (TestRequest question) = Unit {0}
IsTestRequest (RecordsRequest task g texts end filter) = ⊥

-- ---- the input and the output

-- Whether a request is about the input. Records are those of the input if no text is named.
abbrev pub ReadsInput : ToolRequest → Type 0
ReadsInput InputRequest = Unit {0}
ReadsInput (HelpRequest text) = ⊥
ReadsInput (FileRequest task g) = ⊥
ReadsInput (LintRequest question) = ⊥
ReadsInput (FilesRequest task g t) = ⊥
ReadsInput (CoverRequest start memo steps needed g texts) = ⊥
ReadsInput (CoverRecordsRequest g question) = question.texts ≡ []
ReadsInput (ExplainRequest question printing) = IsInput question.list
ReadsInput (ExplainRecordsRequest question) = question.texts ≡ []
ReadsInput (TestRequest question) = ⊥
ReadsInput (RecordsRequest task g texts end filter) = texts ≡ []

-- whether a failed read of the input ends a request; an explanation reports it itself
abbrev pub EndsWithInput : ToolRequest → Type 0
EndsWithInput InputRequest = Unit {0}
EndsWithInput (CoverRecordsRequest g question) = Unit {0}
EndsWithInput (ExplainRecordsRequest question) = Unit {0}
EndsWithInput (RecordsRequest task g texts end filter) = Unit {0}
EndsWithInput other = ⊥

-- whether a request writes before it has read all texts: messages of texts, or lines of records
abbrev pub WritesEarly : ToolRequest → Type 0
WritesEarly (ExplainRequest question printing) = Unit {0}
WritesEarly (ExplainRecordsRequest question) = Unit {0}
WritesEarly (RecordsRequest task g texts end filter) = Unit {0}
WritesEarly other = ⊥
