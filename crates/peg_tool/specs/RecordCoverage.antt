-- How a request for what records use of a grammar ends.
use Rattle.std.specs.Prelude.{◌≡◌, ◌⊎◌, ℕ, ◌+◌, ◌++◌, IfSome, IsSome, List, OnOk, [], Option, Result, codes, length, map}
use Rattle.std.specs.Fmt.{decimal}
use Rattle.std.specs.List.{flat_map, range_with_len}
use Rattle.peg_coverage_files.specs.CoveringFaults.{IsFirst}
use Rattle.peg_coverage_files.specs.RecordFaults.{HasLongRecord, HasShortRecords}
use Rattle.peg_io.specs.NamedFile.{NamedFile, Readable, bytes_of}
use Rattle.peg_json.specs.Reply.{Reply, Covered}
use Rattle.peg_parser.specs.Accepts.{Accepts}
use Rattle.peg_records.specs.Records.{records}
use Rattle.peg_record_files.specs.Streams.{ArePresent, AreStreams}
use Rattle.peg_replies.specs.Replies.{RepliesTo}
use Rattle.peg_replies.specs.Task.{ToolTask, CoverTask}
use Rattle.peg_semantics.specs.Rules.{Rule}
use Rattle.peg_semantics.specs.Starts.{start_name}
use Rattle.peg_tool.specs.CoverageOutcome.{IsPrintedOf, WritesCoverage}
use Rattle.peg_tool.specs.Requests.{CoverQuestion}
use Rattle.peg_tool.specs.declared.program.ProgramFault.{ProgramFault}
use Rattle.peg_tool.specs.declared.report.Findings.{Findings}

-- the name of a record in messages: its number from 1 on
abbrev pub record_name : (number : ℕ) → List ℕ
record_name number = codes "record " ++ decimal (number + 1)

-- the names of this many records
abbrev pub record_names : (count : ℕ) → List (List ℕ)
record_names count = map record_name (range_with_len 0 count)

-- the coverage of records is that of readable files that hold them
abbrev pub record_task : CoverQuestion → (texts : List (List ℕ)) → ToolTask
record_task question texts =
    CoverTask (map Readable texts) question.start question.memo question.steps question.needed

-- the line, the exit status and the lines on standard error for what these records use of a grammar file
abbrev pub IsPrintedOfRecords : CoverQuestion → (file : List ℕ) → (texts : List (List ℕ)) → (line : List ℕ)
    → (status : ℕ) → (errors : List ℕ) → Type 0
IsPrintedOfRecords question file texts =
    IsPrintedOf (RepliesTo file [] (record_task question texts)) (record_names (length texts)) file

-- a reply doesn't say what texts use
abbrev pub IsNoCoverage : Reply → Type 0
IsNoCoverage (Covered texts matched stopped rules alternatives) = ⊥
IsNoCoverage other = Unit {0}

-- No record is covered: the line reports the grammar file, its marked grammar or the start, as it does for no text.
abbrev pub RefusesCoverage : CoverQuestion → (file : List ℕ) → (line : List ℕ) → (status : ℕ) → (errors : List ℕ)
    → Type 0
RefusesCoverage question file =
    IsPrintedOf (λ reply. RepliesTo file [] (record_task question []) reply × IsNoCoverage reply) [] file

-- texts can be covered: the grammar file is accepted, and its rules have the start
abbrev pub CanCover : CoverQuestion → (file : List ℕ) → Type 0
CanCover question file =
    (rules : List Rule) × Accepts file rules × IsSome (start_name rules question.start)

-- Each text can be opened, or one of them has a record that is too long. Then those before it can be opened, and have no
-- such record.
abbrev pub AreOpened : CoverQuestion → (file_at : List ℕ → NamedFile) → Type 0
AreOpened question file_at = ArePresent file_at question.texts
    ⊎ IsFirst (λ (name : List ℕ). HasShortRecords question.end (file_at name))
    (λ (name : List ℕ). HasLongRecord question.end (file_at name)) question.texts

-- How a request for what the records of texts use of a grammar file ends, over files by name and an input. It promises
-- nothing of the records if the bytes of a text aren't specified, but that no text is missing.
abbrev pub EndsCoverage : CoverQuestion → (file : List ℕ) → (file_at : List ℕ → NamedFile) → (input : Option (List ℕ))
    → (old new : Option (List ℕ)) → Result Findings ProgramFault → Type 0
EndsCoverage question file file_at input old new result =
    WritesCoverage (RefusesCoverage question file) old new result
    ⊎ (CanCover question file × OnOk result (AreOpened question file_at)
    × ((streams : List (List ℕ)) → AreStreams file_at input question.texts streams
    → WritesCoverage (IsPrintedOfRecords question file (flat_map (records question.end) streams)) old new result))

-- The same for the grammar file with name `g`. It promises nothing if its bytes aren't specified.
abbrev pub RecordCoverageOutcome : CoverQuestion → (g : List ℕ) → (file_at : List ℕ → NamedFile)
    → (input : Option (List ℕ)) → (old new : Option (List ℕ)) → Result Findings ProgramFault → Type 0
RecordCoverageOutcome question g file_at input old new result =
    IfSome (bytes_of (file_at g)) (λ file. EndsCoverage question file file_at input old new result)
