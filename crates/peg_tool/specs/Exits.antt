-- How the program exits.
use Rattle.std.specs.Prelude.{◌≡◌, ◌≢◌, ℕ, true, Contains, List, [], ◌∷◌, ◌++◌, codes, Option, None, Some, Result, Ok, Err}
use Rattle.std.specs.Prelude.{string_bytes}
use Rattle.std.specs.IoError.{error_kind}
use Rattle.std.specs.declared.io.Error.{Error}
use Rattle.std.specs.declared.io.ErrorKind.{ErrorKind}
use Rattle.std.specs.declared.io.ErrorKind.TheVariants.{OutOfMemory}
use Rattle.peg_io.specs.NamedFile.{NamedFile, IsMissing, is_readable}
use Rattle.peg_messages.specs.FileNames.{shown_name}
use Rattle.peg_cli.specs.declared.words.WordsFault.{WordsFault}
use Rattle.peg_cli.specs.declared.words.WordsFault.TheVariants as words
use Rattle.peg_tool.specs.CommandOutcome.{RequestOutcome}
use Rattle.peg_tool.specs.Faults.{IsKind, device_message, record_streams, standard_input, stream_name}
use Rattle.peg_tool.specs.Requests.{ToolRequest, InputRequest, HelpRequest, FileRequest, LintRequest, FilesRequest, CoverRequest, CoverRecordsRequest, ExplainRequest, ExplainRecordsRequest, TestRequest, RecordsRequest}
use Rattle.peg_tool.specs.declared.exit.Exit.{Exit}
use Rattle.peg_tool.specs.declared.exit.Exit.TheVariants.{Done, Reported, Usage, Device, Fault}
use Rattle.peg_tool.specs.declared.fault.RequestFault.{RequestFault}
use Rattle.peg_tool.specs.declared.fault.RequestFault.TheVariants as failed
use Rattle.peg_tool.specs.declared.program.ProgramFault.{ProgramFault}
use Rattle.peg_tool.specs.declared.program.ProgramFault.TheVariants.{File, Memory}
use Rattle.peg_tool.specs.declared.report.Report.{Report}
use Rattle.peg_tool.specs.declared.report.Report.TheVariants as report

-- The exit for a device that failed, by its name in messages and the kind of its error, where that is known. Without
-- memory for the second line it has one line.
abbrev pub IsDeviceExit : (name : List ℕ) → (known : Option ErrorKind) → Exit → Type 0
IsDeviceExit name known (Device text) =
    (kind : ErrorKind) × IsKind known kind × (string_bytes text ≡ device_message name kind)
IsDeviceExit name known (Fault File) = Unit {0}
IsDeviceExit name known other = ⊥

-- the exit for a fault of a device, of whichever one
abbrev pub IsFileExit : Exit → Type 0
IsFileExit (Device text) = Unit {0}
IsFileExit (Fault File) = Unit {0}
IsFileExit other = ⊥

-- the fault of an exit, if it has one
abbrev pub exit_fault : Exit → Option ProgramFault
exit_fault (Done status) = None
exit_fault (Reported status faults) = None
exit_fault (Usage text) = None
exit_fault (Device text) = Some File
exit_fault (Fault fault) = Some fault

-- the exit for a report
abbrev pub report_exit : Report → Exit
report_exit (report.Done status) = Done status
report_exit (report.Found findings) = Reported findings.status findings.faults

-- the exit for a report or a fault
abbrev pub IsExitFor : Result Report ProgramFault → Exit → Type 0
IsExitFor (Ok it) exit = exit ≡ report_exit it
IsExitFor (Err File) exit = IsFileExit exit
IsExitFor (Err Memory) exit = exit ≡ Fault Memory

-- the exit for a request, over files by name and an input
abbrev pub IsExitOf : ToolRequest → (file_at : List ℕ → NamedFile) → (input : Option (List ℕ))
    → (old new : Option (List ℕ)) → Exit → Type 0
IsExitOf request file_at input old new exit =
    (ended : Result Report ProgramFault) × RequestOutcome request file_at input old new ended × IsExitFor ended exit

-- a second line is that of the stream with this name
abbrev pub IsExitNaming : (name : List ℕ) → Exit → Type 0
IsExitNaming name (Device text) = (kind : ErrorKind) × (string_bytes text ≡ device_message name kind)
IsExitNaming name other = Unit {0}

-- an exit with a second line names one of these files or streams
abbrev pub IsExitAmong : (names : List (List ℕ)) → Exit → Type 0
IsExitAmong names (Device text) = (name : List ℕ) × (kind : ErrorKind) × Contains names name
    × (string_bytes text ≡ device_message name kind)
IsExitAmong names other = Unit {0}

-- Which stream a second line names if the output has not failed: a grammar file that is missing; the text if the grammar
-- file is readable, and the grammar file if the text is. For records it is one of the texts, or the input, if the
-- grammar file is readable. An explanation, a test or messages about a grammar have no such line.
abbrev pub IsExitOfCause : ToolRequest → (file_at : List ℕ → NamedFile) → Exit → Type 0
IsExitOfCause InputRequest file_at exit = IsExitNaming standard_input exit
IsExitOfCause (HelpRequest text) file_at exit = Unit {0}
IsExitOfCause (FileRequest task g) file_at exit = IsExitNaming (shown_name g) exit
IsExitOfCause (LintRequest question) file_at exit = Unit {0}
IsExitOfCause (FilesRequest task g t) file_at exit = (IsMissing (file_at g) → IsExitNaming (shown_name g) exit)
    × (is_readable (file_at g) ≡ true → IsExitNaming (shown_name t) exit)
    × (is_readable (file_at t) ≡ true → IsExitNaming (shown_name g) exit)
IsExitOfCause (CoverRequest start memo steps needed g texts) file_at exit =
    IsMissing (file_at g) → IsExitNaming (shown_name g) exit
IsExitOfCause (CoverRecordsRequest g question) file_at exit = (IsMissing (file_at g) → IsExitNaming (shown_name g) exit)
    × (is_readable (file_at g) ≡ true → IsExitAmong (record_streams question.texts) exit)
IsExitOfCause (ExplainRequest question printing) file_at exit = Unit {0}
IsExitOfCause (ExplainRecordsRequest question) file_at exit = IsExitAmong (record_streams question.texts) exit
IsExitOfCause (TestRequest question) file_at exit = Unit {0}
IsExitOfCause (RecordsRequest task g texts end filter) file_at exit =
    (IsMissing (file_at g) → IsExitNaming (shown_name g) exit)
    × (is_readable (file_at g) ≡ true → IsExitAmong (record_streams texts) exit)

-- ---- exits of the code's faults

-- the exit for a fault
abbrev pub IsExitOfFault : RequestFault → Exit → Type 0
IsExitOfFault (failed.Device at kind) exit = IsDeviceExit (stream_name at) (Some kind) exit
IsExitOfFault failed.Memory exit = exit ≡ Fault Memory

-- the exit for a report or a fault of the code
abbrev pub IsExitOfResult : Result Report RequestFault → Exit → Type 0
IsExitOfResult (Ok it) exit = exit ≡ report_exit it
IsExitOfResult (Err why) exit = IsExitOfFault why exit

-- the exit for arguments that are no command line
abbrev pub words_exit : WordsFault → Exit
words_exit (words.Usage text) = Usage text
words_exit words.Memory = Fault Memory

-- the exit status
abbrev pub exit_status : Exit → ℕ
exit_status (Done status) = status
exit_status (Reported status faults) = status
exit_status (Usage text) = 3
exit_status (Device text) = 4
exit_status (Fault File) = 4
exit_status (Fault Memory) = 5

-- the text on standard error: lines for files and texts, the usage error, or one or two lines for a fault
abbrev pub exit_message : Exit → List ℕ
exit_message (Done status) = []
exit_message (Reported status faults) = string_bytes faults
exit_message (Usage text) = string_bytes text
exit_message (Device text) = string_bytes text
exit_message (Fault File) = codes "pegtool: file fault" ++ 10 ∷ []
exit_message (Fault Memory) = codes "pegtool: out of memory" ++ 10 ∷ []

-- ---- arguments that can't be read

-- the usage error for arguments that aren't UTF-8
abbrev pub not_utf8 : List ℕ
not_utf8 = codes "error: a word isn't UTF-8" ++ (10 ∷ 10 ∷ codes "For more information, try '--help'.") ++ 10 ∷ []

-- Why there are no arguments, if reading them failed with this error: they aren't UTF-8, or an allocation failed.
abbrev pub IsArgsFault : Error → WordsFault → Type 0
IsArgsFault error words.Memory = Unit {0}
IsArgsFault error (words.Usage text) = (error_kind error ≢ OutOfMemory) × (string_bytes text ≡ not_utf8)
