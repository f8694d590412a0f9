-- The results of requests that read records.
use Rattle.std.specs.Prelude.{◌≡◌, ℕ, List, Option, Result, Ok, Err}
use Rattle.peg_explain_files.specs.declared.ended.Ended.{Ended}
use Rattle.peg_explain_records.specs.Questions.{RecordsQuestion}
use Rattle.peg_explain_records.specs.RecordsExplained.{IsRecordsExplained}
use Rattle.peg_io.specs.NamedFile.{NamedFile}
use Rattle.peg_record_files.specs.declared.fault.RecordsFault.{RecordsFault}
use Rattle.peg_record_files.specs.declared.fault.RecordsFault.TheVariants as reading
use Rattle.peg_tool.specs.Explanations.{findings_of}
use Rattle.peg_tool.specs.declared.report.Findings.{Findings}
use Rattle.peg_tool.specs.declared.program.ProgramFault.{ProgramFault}
use Rattle.peg_tool.specs.declared.program.ProgramFault.TheVariants.{File, Memory}

-- the result of a request for that of its records, which have this value
abbrev pub records_result : {T X : Type 0} → (value : T → X) → Result T RecordsFault → Result X ProgramFault
records_result value (Ok ended) = Ok (value ended)
records_result value (Err (reading.Text name kind)) = Err File
records_result value (Err reading.Input) = Err File
records_result value (Err reading.Output) = Err File
records_result value (Err reading.Memory) = Err Memory

-- the result of an explanation of records over files by name and an input
abbrev pub RecordsExplanation : RecordsQuestion → (file_at : List ℕ → NamedFile) → (input : Option (List ℕ))
    → (old new : Option (List ℕ)) → Result Findings ProgramFault → Type 0
RecordsExplanation question file_at input old new result = (ended : Result Ended RecordsFault)
    × IsRecordsExplained question file_at input old new ended × (result ≡ records_result findings_of ended)
