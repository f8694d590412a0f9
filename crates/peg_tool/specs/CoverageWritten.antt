-- Describes code: what is printed of what texts use, and why there is nothing.
use Rattle.std.specs.Prelude.{◌≡◌, ℕ, false, IfSome, List, Option, Result, Ok, Err, string_bytes}
use Rattle.std.specs.Io.KnownBytes.{Appends}
use Rattle.peg_coverage_files.specs.CoveringFaults.{IsFirst, IsParsable}
use Rattle.peg_io.specs.NamedFile.{NamedFile, is_readable, open_error}
use Rattle.peg_io.specs.Transfer.{AppendsProperPrefix}
use Rattle.peg_json.specs.Lines.{line_bytes}
use Rattle.peg_json.specs.Reply.{Reply}
use Rattle.peg_json.specs.Statuses.{status_code}
use Rattle.peg_tool.specs.CoverageOutcome.{IsPrintedOf}
use Rattle.peg_tool.specs.declared.covering.CoverageReply.{CoverageReply}
use Rattle.peg_tool.specs.declared.report.Findings.{Findings}
use Rattle.peg_tool.specs.declared.fault.RequestFault.{RequestFault}
use Rattle.peg_tool.specs.declared.fault.RequestFault.TheVariants as fault
use Rattle.peg_tool.specs.declared.fault.Stream.TheVariants as streams
use Rattle.peg_tool.specs.declared.program.ProgramFault.{ProgramFault}
use Rattle.peg_tool.specs.declared.program.ProgramFault.TheVariants.{File, Memory}

-- what is printed is that of a reply of a kind, about a grammar file and texts with these names
abbrev pub IsReplyOfKind : (Kind : Reply → Type 0) → (names : List (List ℕ)) → (file : List ℕ) → CoverageReply → Type 0
IsReplyOfKind Kind names file reply =
    IsPrintedOf Kind names file (line_bytes reply.line) (status_code reply.line.status) (string_bytes reply.faults)

-- Whether a fault is true: the file of a text with this name isn't specified to be readable, and those before it are
-- there and not too long. If it is specified that the file can't be opened, the fault has the kind of that error. A
-- failed allocation is always possible.
abbrev pub IsTextFault : (file_at : List ℕ → NamedFile) → (names : List (List ℕ)) → RequestFault → Type 0
IsTextFault file_at names (fault.Device (streams.File unread) kind) =
    IsFirst (λ (name : List ℕ). IsParsable (file_at name))
    (λ (name : List ℕ). (unread.now ≡ name) × (is_readable (file_at name) ≡ false)
    × IfSome (open_error (file_at name)) (λ error. kind ≡ error)) names
IsTextFault file_at names (fault.Device at kind) = ⊥
IsTextFault file_at names fault.Memory = Unit {0}

-- What is written of a reply: its line. If a write fails, a proper prefix of it is written.
abbrev pub WritesCoverageReply : CoverageReply → (old new : Option (List ℕ)) → Result Findings ProgramFault → Type 0
WritesCoverageReply reply old new (Ok ended) = Appends old new (line_bytes reply.line)
    × (ended.status ≡ status_code reply.line.status) × (string_bytes ended.faults ≡ string_bytes reply.faults)
WritesCoverageReply reply old new (Err Memory) = ⊥
WritesCoverageReply reply old new (Err File) = AppendsProperPrefix old new (line_bytes reply.line)
