-- Why a request has no answer, and what is said of it on standard error.
use Rattle.std.specs.Prelude.{◌≡◌, ℕ, true, Contains, IfSome, List, [], ◌∷◌, ◌++◌, Option, None, Result, Ok, Err, codes, map}
use Rattle.std.specs.declared.io.ErrorKind.{ErrorKind}
use Rattle.peg_io.specs.NamedFile.{NamedFile, IsMissing, is_readable}
use Rattle.peg_io.specs.Reasons.{reason_of}
use Rattle.peg_messages.specs.FileNames.{shown_name}
use Rattle.peg_tool.specs.Requests.{ToolRequest, InputRequest, HelpRequest, FileRequest, LintRequest, FilesRequest, CoverRequest, CoverRecordsRequest, ExplainRequest, ExplainRecordsRequest, TestRequest, RecordsRequest}
use Rattle.peg_tool.specs.declared.fault.RequestFault.{RequestFault}
use Rattle.peg_tool.specs.declared.fault.RequestFault.TheVariants as failed
use Rattle.peg_tool.specs.declared.fault.Stream.{Stream}
use Rattle.peg_tool.specs.declared.fault.Stream.TheVariants as streams
use Rattle.peg_tool.specs.declared.program.ProgramFault.{ProgramFault}
use Rattle.peg_tool.specs.declared.program.ProgramFault.TheVariants.{File, Memory}

-- the names of the standard streams in messages
abbrev pub standard_input : List ℕ
standard_input = codes "standard input"

abbrev pub standard_output : List ℕ
standard_output = codes "standard output"

-- the lines for a file or a stream that can't be opened, read or written: its name, and the reason
abbrev pub device_message : (name : List ℕ) → ErrorKind → List ℕ
device_message name kind =
    (codes "pegtool: file fault" ++ 10 ∷ []) ++ name ++ codes ": " ++ reason_of kind ++ codes "\n"

-- what records are read of, by the names in messages: the texts, or the input without texts
abbrev pub record_streams : (texts : List (List ℕ)) → List (List ℕ)
record_streams [] = standard_input ∷ []
record_streams (text ∷ texts) = map shown_name (text ∷ texts)

-- What a request opens, reads or writes, by the names in messages. An explanation, a test and messages about a grammar
-- have lines of their own for their files, but for the texts whose records are explained.
abbrev pub stream_names : ToolRequest → List (List ℕ)
stream_names InputRequest = standard_input ∷ standard_output ∷ []
stream_names (HelpRequest text) = standard_output ∷ []
stream_names (FileRequest task g) = shown_name g ∷ standard_output ∷ []
stream_names (LintRequest question) = standard_output ∷ []
stream_names (FilesRequest task g t) = shown_name g ∷ shown_name t ∷ standard_output ∷ []
stream_names (CoverRequest start memo steps needed g texts) =
    shown_name g ∷ map shown_name texts ++ standard_output ∷ []
stream_names (CoverRecordsRequest g question) = shown_name g ∷ record_streams question.texts ++ standard_output ∷ []
stream_names (ExplainRequest question printing) = standard_output ∷ []
stream_names (ExplainRecordsRequest question) = record_streams question.texts ++ standard_output ∷ []
stream_names (TestRequest question) = standard_output ∷ []
stream_names (RecordsRequest task g texts end filter) = shown_name g ∷ record_streams texts ++ standard_output ∷ []

-- a kind of error that is known is this one
abbrev pub IsKind : Option ErrorKind → ErrorKind → Type 0
IsKind known kind = IfSome known (λ it. kind ≡ it)

-- ---- the faults of the code

-- the name of a stream in messages
abbrev pub stream_name : Stream → List ℕ
stream_name (streams.File name) = shown_name name.now
stream_name streams.Input = standard_input
stream_name streams.Output = standard_output

-- the fault without the stream and the reason
abbrev pub plain_fault : RequestFault → ProgramFault
plain_fault (failed.Device at kind) = File
plain_fault failed.Memory = Memory

abbrev pub plain_result : {X : Type 0} → Result X RequestFault → Result X ProgramFault
plain_result (Ok x) = Ok x
plain_result (Err fault) = Err (plain_fault fault)

-- a fault of a device is that of the stream with this name, of this kind if it is known
abbrev pub IsFaultAt : (name : List ℕ) → (known : Option ErrorKind) → RequestFault → Type 0
IsFaultAt name known (failed.Device at kind) = (stream_name at ≡ name) × IsKind known kind
IsFaultAt name known failed.Memory = Unit {0}

-- a fault of a device is that of one of the streams with these names
abbrev pub IsFaultAmong : (names : List (List ℕ)) → RequestFault → Type 0
IsFaultAmong names (failed.Device at kind) = Contains names (stream_name at)
IsFaultAmong names failed.Memory = Unit {0}

-- Which stream a fault of a device names if the output has not failed: a grammar file that is missing; the text if the
-- grammar file is readable, and the grammar file if the text is. For records it is one of the texts, or the input, if
-- the grammar file is readable, or always for an explanation of records. Another explanation, a test or messages about
-- a grammar have no such fault.
abbrev pub NamesCause : ToolRequest → (file_at : List ℕ → NamedFile) → RequestFault → Type 0
NamesCause InputRequest file_at it = IsFaultAt standard_input None it
NamesCause (HelpRequest text) file_at it = Unit {0}
NamesCause (FileRequest task g) file_at it = IsFaultAt (shown_name g) None it
NamesCause (LintRequest question) file_at it = Unit {0}
NamesCause (FilesRequest task g t) file_at it = (IsMissing (file_at g) → IsFaultAt (shown_name g) None it)
    × (is_readable (file_at g) ≡ true → IsFaultAt (shown_name t) None it)
    × (is_readable (file_at t) ≡ true → IsFaultAt (shown_name g) None it)
NamesCause (CoverRequest start memo steps needed g texts) file_at it =
    IsMissing (file_at g) → IsFaultAt (shown_name g) None it
NamesCause (CoverRecordsRequest g question) file_at it = (IsMissing (file_at g) → IsFaultAt (shown_name g) None it)
    × (is_readable (file_at g) ≡ true → IsFaultAmong (record_streams question.texts) it)
NamesCause (ExplainRequest question printing) file_at it = Unit {0}
NamesCause (ExplainRecordsRequest question) file_at it = IsFaultAmong (record_streams question.texts) it
NamesCause (TestRequest question) file_at it = Unit {0}
NamesCause (RecordsRequest task g texts end filter) file_at it =
    (IsMissing (file_at g) → IsFaultAt (shown_name g) None it)
    × (is_readable (file_at g) ≡ true → IsFaultAmong (record_streams texts) it)
