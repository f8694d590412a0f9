-- The exits of results.
use Rattle.std.proofs.Common.{◌≡◌, ◌∙◌, ℕ, List, Option, None, Some, Result, Ok, Err, IfErr, IfOk}
use Rattle.std.proofs.Common.{ap, refl, subst, sym}
use Rattle.std.specs.Prelude.{Contains}
use Rattle.std.specs.Result.{result_err}
use Rattle.std.specs.declared.io.ErrorKind.{ErrorKind}
use Rattle.peg_io.specs.NamedFile.{NamedFile}
use Rattle.peg_messages.specs.FileNames.{shown_name}
use Rattle.peg_tool.specs.Exits.{IsDeviceExit, IsExitAmong, IsExitFor, IsExitNaming, IsExitOfCause, IsExitOfResult, IsFileExit}
use Rattle.peg_tool.specs.Exits.{exit_fault, report_exit}
use Rattle.peg_tool.specs.Faults.{IsFaultAmong, IsFaultAt, IsKind, NamesCause, plain_result, record_streams, standard_input, stream_name}
use Rattle.peg_tool.specs.Requests.{ToolRequest, InputRequest, HelpRequest, FileRequest, LintRequest, FilesRequest, CoverRequest, CoverRecordsRequest, ExplainRequest, ExplainRecordsRequest, TestRequest, RecordsRequest}
use Rattle.peg_tool.specs.declared.exit.Exit.{Exit}
use Rattle.peg_tool.specs.declared.exit.Exit.TheVariants.{Done, Reported, Usage, Device, Fault}
use Rattle.peg_tool.specs.declared.fault.RequestFault.{RequestFault}
use Rattle.peg_tool.specs.declared.fault.RequestFault.TheVariants as failed
use Rattle.peg_tool.specs.declared.program.ProgramFault.TheVariants.{File, Memory}
use Rattle.peg_tool.specs.declared.report.Report.{Report}
use Rattle.peg_tool.specs.declared.report.Report.TheVariants as report

-- the exit of a device is one for a fault of a device
device-file : (name : List ℕ) (known : Option ErrorKind) (exit : Exit) → IsDeviceExit name known exit → IsFileExit exit
device-file name known (Done status) is = is
device-file name known (Reported status faults) is = is
device-file name known (Usage text) is = is
device-file name known (Device text) is = tt
device-file name known (Fault File) is = tt
device-file name known (Fault Memory) is = is

-- the exit of a device has the fault of a file
device-fault : (name : List ℕ) (known : Option ErrorKind) (exit : Exit) → IsDeviceExit name known exit
    → exit_fault exit ≡ Some File
device-fault name known (Done status) is = absurd is
device-fault name known (Reported status faults) is = absurd is
device-fault name known (Usage text) is = absurd is
device-fault name known (Device text) is = refl
device-fault name known (Fault File) is = refl
device-fault name known (Fault Memory) is = absurd is

-- a second line names the stream of the fault
fault-names : (name : List ℕ) (known : Option ErrorKind) (exit : Exit) → IsDeviceExit name known exit → IsExitNaming name exit
fault-names name known (Done status) is = tt
fault-names name known (Reported status faults) is = tt
fault-names name known (Usage text) is = tt
fault-names name known (Device text) is = (is.0, is.2)
fault-names name known (Fault fault) is = tt

fault-among : (names : List (List ℕ)) (name : List ℕ) (known : Option ErrorKind) (exit : Exit) → Contains names name
    → IsDeviceExit name known exit → IsExitAmong names exit
fault-among names name known (Done status) has is = tt
fault-among names name known (Reported status faults) has is = tt
fault-among names name known (Usage text) has is = tt
fault-among names name known (Device text) has is = (name, is.0, has, is.2)
fault-among names name known (Fault fault) has is = tt

-- what is known of the kind of a fault is true of the exit
known-kind : (known : Option ErrorKind) (kind found : ErrorKind) → IsKind known kind → found ≡ kind → IsKind known found
known-kind known kind found is same = subst (IsKind known) (sym same) is

device-known : (name : List ℕ) (known : Option ErrorKind) (kind : ErrorKind) (exit : Exit) → IsKind known kind
    → IsDeviceExit name (Some kind) exit → IsDeviceExit name known exit
device-known name known kind (Done status) of is = is
device-known name known kind (Reported status faults) of is = is
device-known name known kind (Usage text) of is = is
device-known name known kind (Device text) of is = (is.0, known-kind known kind is.0 of is.1, is.2)
device-known name known kind (Fault File) of is = tt
device-known name known kind (Fault Memory) of is = is

-- ---- reports and faults

-- a report has an exit without a fault and without a second line
report-fault : (it : Report) → exit_fault (report_exit it) ≡ None
report-fault (report.Done status) = refl
report-fault (report.Found findings) = refl

report-names : (name : List ℕ) (it : Report) → IsExitNaming name (report_exit it)
report-names name (report.Done status) = tt
report-names name (report.Found findings) = tt

report-among : (names : List (List ℕ)) (it : Report) → IsExitAmong names (report_exit it)
report-among names (report.Done status) = tt
report-among names (report.Found findings) = tt

-- a result of the code has the exit of its plain result
pub exit-for : (ended : Result Report RequestFault) (exit : Exit) → IsExitOfResult ended exit
    → IsExitFor (plain_result ended) exit
exit-for (Ok it) exit is = is
exit-for (Err (failed.Device at kind)) exit is = device-file (stream_name at) (Some kind) exit is
exit-for (Err failed.Memory) exit is = is

-- the exit has the fault of the result
pub exit-fault : (ended : Result Report RequestFault) (exit : Exit) → IsExitOfResult ended exit
    → exit_fault exit ≡ result_err (plain_result ended)
exit-fault (Ok it) exit is = ap exit_fault is ∙ report-fault it
exit-fault (Err (failed.Device at kind)) exit is = device-fault (stream_name at) (Some kind) exit is
exit-fault (Err failed.Memory) exit is = ap exit_fault is

-- a second line names the stream of the fault
pub exit-naming : (ended : Result Report RequestFault) (exit : Exit) (name : List ℕ) (known : Option ErrorKind)
    → IsExitOfResult ended exit → IfErr ended (IsFaultAt name known) → IsExitNaming name exit
exit-naming (Ok it) exit name known is at =
    subst (IsExitNaming name) (sym is) (report-names name it)
exit-naming (Err (failed.Device stream kind)) exit name known is at =
    subst (λ (n : List ℕ). IsExitNaming n exit) at.0 (fault-names (stream_name stream) (Some kind) exit is)
exit-naming (Err failed.Memory) exit name known is at = subst (IsExitNaming name) (sym is) tt

pub exit-device : (ended : Result Report RequestFault) (exit : Exit) (name : List ℕ) (known : Option ErrorKind)
    → IsExitOfResult ended exit → result_err (plain_result ended) ≡ Some File
    → IfErr ended (IsFaultAt name known) → IsDeviceExit name known exit
exit-device (Ok it) exit name known is file at = absurd (let bad : None ≡ Some File = file in cc)
exit-device (Err (failed.Device stream kind)) exit name known is file at =
    device-known name known kind exit at.1
    (subst (λ (n : List ℕ). IsDeviceExit n (Some kind) exit) at.0 is)
exit-device (Err failed.Memory) exit name known is file at = absurd (let bad : Some Memory ≡ Some File = file in cc)

pub exit-among : (ended : Result Report RequestFault) (exit : Exit) (names : List (List ℕ)) → IsExitOfResult ended exit
    → IfErr ended (IsFaultAmong names) → IsExitAmong names exit
exit-among (Ok it) exit names is has = subst (IsExitAmong names) (sym is) (report-among names it)
exit-among (Err (failed.Device stream kind)) exit names is has =
    fault-among names (stream_name stream) (Some kind) exit has is
exit-among (Err failed.Memory) exit names is has = subst (IsExitAmong names) (sym is) tt

-- ---- requests

err-map : {X : Type 0} (ended : Result X RequestFault) (P Q : RequestFault → Type 0) → ((fault : RequestFault) → P fault → Q fault)
    → IfErr ended P → IfErr ended Q
err-map (Ok x) P Q more is = tt
err-map (Err fault) P Q more is = more fault is

-- what a fault names by its cause is named by the exit
pub exit-cause : (asked : ToolRequest) (file_at : List ℕ → NamedFile) (ended : Result Report RequestFault) (exit : Exit)
    → IsExitOfResult ended exit → IfErr ended (NamesCause asked file_at) → IsExitOfCause asked file_at exit
exit-cause InputRequest file_at ended exit is names = exit-naming ended exit standard_input None is names
exit-cause (HelpRequest text) file_at ended exit is names = tt
exit-cause (FileRequest task g) file_at ended exit is names = exit-naming ended exit (shown_name g) None is names
exit-cause (LintRequest question) file_at ended exit is names = tt
exit-cause (FilesRequest task g t) file_at ended exit is names = (
  λ missing. exit-naming ended exit (shown_name g) None is
      (err-map ended (NamesCause (FilesRequest task g t) file_at) (IsFaultAt (shown_name g) None)
      (λ fault n. n.0 missing) names),
  λ readable. exit-naming ended exit (shown_name t) None is
      (err-map ended (NamesCause (FilesRequest task g t) file_at) (IsFaultAt (shown_name t) None)
      (λ fault n. n.1 readable) names),
  λ readable. exit-naming ended exit (shown_name g) None is
      (err-map ended (NamesCause (FilesRequest task g t) file_at) (IsFaultAt (shown_name g) None)
      (λ fault n. n.2 readable) names),
)
exit-cause (CoverRequest start memo steps needed g texts) file_at ended exit is names =
    λ missing. exit-naming ended exit (shown_name g) None is
    (err-map ended (NamesCause (CoverRequest start memo steps needed g texts) file_at) (IsFaultAt (shown_name g) None)
    (λ fault n. n missing) names)
exit-cause (CoverRecordsRequest g question) file_at ended exit is names = (
  λ missing. exit-naming ended exit (shown_name g) None is
      (err-map ended (NamesCause (CoverRecordsRequest g question) file_at) (IsFaultAt (shown_name g) None)
      (λ fault n. n.0 missing) names),
  λ readable. exit-among ended exit (record_streams question.texts) is
      (err-map ended (NamesCause (CoverRecordsRequest g question) file_at) (IsFaultAmong (record_streams question.texts))
      (λ fault n. n.1 readable) names),
)
exit-cause (ExplainRequest question printing) file_at ended exit is names = tt
exit-cause (ExplainRecordsRequest question) file_at ended exit is names =
    exit-among ended exit (record_streams question.texts) is names
exit-cause (TestRequest question) file_at ended exit is names = tt
exit-cause (RecordsRequest task g texts end filter) file_at ended exit is names = (
  λ missing. exit-naming ended exit (shown_name g) None is
      (err-map ended (NamesCause (RecordsRequest task g texts end filter) file_at) (IsFaultAt (shown_name g) None)
      (λ fault n. n.0 missing) names),
  λ readable. exit-among ended exit (record_streams texts) is
      (err-map ended (NamesCause (RecordsRequest task g texts end filter) file_at) (IsFaultAmong (record_streams texts))
      (λ fault n. n.1 readable) names),
)

-- what holds of the arguments holds of the result with them
pub if-ok : {T E : Type 0} (given : Result T E) (value : T) (P : T → Type 0) → given ≡ Ok value → P value → IfOk given P
if-ok given value P is holds = subst (λ (r : Result _ _). IfOk r P) (sym is) holds
