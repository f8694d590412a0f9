-- Describes code: what is printed of what records use, and why there is nothing.
use Rattle.std.specs.Prelude.{◌≡◌, ◌⊎◌, ℕ, Bool, true, false, Contains, List, [], Option, string_bytes}
use Rattle.std.specs.List.{flat_map}
use Rattle.std.specs.declared.io.ErrorKind.{ErrorKind}
use Rattle.peg_io.specs.NamedFile.{NamedFile, is_readable}
use Rattle.peg_json.specs.Lines.{line_bytes}
use Rattle.peg_json.specs.Statuses.{status_code}
use Rattle.peg_records.specs.Records.{records}
use Rattle.peg_record_files.specs.Streams.{AreStreams}
use Rattle.peg_tool.specs.Faults.{IsKind}
use Rattle.peg_tool.specs.CoverageOutcome.{stopped_line}
use Rattle.peg_tool.specs.RecordCoverage.{AreOpened, CanCover, IsPrintedOfRecords, RefusesCoverage, record_name}
use Rattle.peg_tool.specs.Requests.{CoverQuestion}
use Rattle.peg_tool.specs.declared.covering.CoverageReply.{CoverageReply}
use Rattle.peg_tool.specs.declared.fault.RequestFault.{RequestFault}
use Rattle.peg_tool.specs.declared.fault.RequestFault.TheVariants as fault
use Rattle.peg_tool.specs.declared.fault.Stream.TheVariants as streams

-- what is printed is right
abbrev pub IsRight : (Printed : (line : List ℕ) → (status : ℕ) → (errors : List ℕ) → Type 0) → CoverageReply → Type 0
IsRight Printed reply = Printed (line_bytes reply.line) (status_code reply.line.status) (string_bytes reply.faults)

-- What is printed reports why no record is covered, or what the records use, if the bytes of their streams are
-- specified. Then no text is missing.
abbrev pub IsRecordCoverageReply : CoverQuestion → (file : List ℕ) → (file_at : List ℕ → NamedFile)
    → (input : Option (List ℕ)) → CoverageReply → Type 0
IsRecordCoverageReply question file file_at input reply =
    IsRight (RefusesCoverage question file) reply
    ⊎ (CanCover question file × AreOpened question file_at
    × ((streams : List (List ℕ)) → AreStreams file_at input question.texts streams
    → IsRight (IsPrintedOfRecords question file (flat_map (records question.end) streams)) reply))

-- the lines on standard error for the stopped records with these numbers, in order
abbrev pub record_lines : (stopped : List ℕ) → List ℕ
record_lines stopped = flat_map (λ number. stopped_line (record_name number)) stopped

-- Whether a fault is true: one of the texts with these names isn't specified to be readable, or there is no name, and a
-- read of the input failed. A failed allocation is always possible.
abbrev pub IsRecordCoverFault : (file_at : List ℕ → NamedFile) → (names : List (List ℕ)) → (input_failed : Bool)
    → (input_kind : Option ErrorKind) → RequestFault → Type 0
IsRecordCoverFault file_at names input_failed input_kind (fault.Device (streams.File unread) kind) =
    Contains names unread.now × (is_readable (file_at unread.now) ≡ false)
IsRecordCoverFault file_at names input_failed input_kind (fault.Device streams.Input kind) =
    (names ≡ []) × (input_failed ≡ true) × IsKind input_kind kind
IsRecordCoverFault file_at names input_failed input_kind (fault.Device streams.Output kind) = ⊥
IsRecordCoverFault file_at names input_failed input_kind fault.Memory = Unit {0}
