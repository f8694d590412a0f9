-- How an explanation of texts ends.
use Rattle.std.specs.Prelude.{◌≡◌, ℕ, List, Option, Result, Ok, Err}
use Rattle.peg_explain_files.specs.Explained.{IsExplained}
use Rattle.peg_explain_files.specs.Questions.{Question}
use Rattle.peg_explain_files.specs.declared.ended.Ended.{Ended}
use Rattle.peg_explain_files.specs.declared.ended.ExplainFault.{ExplainFault}
use Rattle.peg_explain_files.specs.declared.ended.ExplainFault.TheVariants as stopped
use Rattle.peg_explain_files.specs.declared.ended.Verdict.{Verdict}
use Rattle.peg_explain_files.specs.declared.ended.Verdict.TheVariants as verdict
use Rattle.peg_explain_files.specs.declared.printing.Printing.{Printing}
use Rattle.peg_io.specs.NamedFile.{NamedFile}
use Rattle.peg_json.specs.Statuses.{status_code}
use Rattle.peg_json.specs.declared.status.Status.{Status}
use Rattle.peg_json.specs.declared.status.Status.TheVariants as status
use Rattle.peg_tool.specs.declared.report.Findings.{Findings}
use Rattle.peg_tool.specs.declared.program.ProgramFault.{ProgramFault}
use Rattle.peg_tool.specs.declared.program.ProgramFault.TheVariants.{File, Memory}

-- the exit status of a verdict
abbrev pub verdict_status : Verdict → Status
verdict_status verdict.Matches = status.Done
verdict_status verdict.Differs = status.Failed
verdict_status verdict.OverLimit = status.Limit
verdict_status verdict.Unreadable = status.File
verdict_status verdict.NoSuchStart = status.Usage
verdict_status verdict.Refused = status.Refused

-- the exit status and the lines for standard error
abbrev pub findings_of : Ended → Findings
findings_of ended = record { status = status_code (verdict_status ended.verdict); faults = ended.faults }

-- the fault of the program
abbrev pub program_fault : ExplainFault → ProgramFault
program_fault stopped.Write = File
program_fault stopped.Memory = Memory

-- the result of an explanation
abbrev pub explanation_result : Result Ended ExplainFault → Result Findings ProgramFault
explanation_result (Ok ended) = Ok (findings_of ended)
explanation_result (Err fault) = Err (program_fault fault)

-- The result of an explanation over files by name and an input. If an allocation fails, the messages of the first texts
-- are written; if a write fails, a part of one more.
abbrev pub ExplanationOutcome : Question → Printing → (file_at : List ℕ → NamedFile) → (input : Option (List ℕ))
    → (old new : Option (List ℕ)) → Result Findings ProgramFault → Type 0
ExplanationOutcome question printing file_at input old new result = (ended : Result Ended ExplainFault)
    × IsExplained question printing file_at input old new ended × (result ≡ explanation_result ended)
