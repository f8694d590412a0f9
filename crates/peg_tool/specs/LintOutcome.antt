-- How messages about a grammar end.
use Rattle.std.specs.Prelude.{◌≡◌, ℕ, List, Option, Result}
use Rattle.peg_explain_files.specs.declared.ended.Ended.{Ended}
use Rattle.peg_explain_files.specs.declared.ended.ExplainFault.{ExplainFault}
use Rattle.peg_io.specs.NamedFile.{NamedFile}
use Rattle.peg_lint_files.specs.LintAnswers.{IsLinted}
use Rattle.peg_lint_files.specs.LintQuestions.{LintQuestion}
use Rattle.peg_tool.specs.Explanations.{explanation_result}
use Rattle.peg_tool.specs.declared.report.Findings.{Findings}
use Rattle.peg_tool.specs.declared.program.ProgramFault.{ProgramFault}

-- The result of messages about a grammar over files by name. It has the exit statuses of an explanation.
abbrev pub LintOutcome : LintQuestion → (file_at : List ℕ → NamedFile) → (old new : Option (List ℕ))
    → Result Findings ProgramFault → Type 0
LintOutcome question file_at old new result = (ended : Result Ended ExplainFault)
    × IsLinted question file_at old new ended × (result ≡ explanation_result ended)
