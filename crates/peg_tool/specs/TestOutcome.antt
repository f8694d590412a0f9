-- How a test of texts in folders ends.
use Rattle.std.specs.Prelude.{◌≡◌, ℕ, List, Option, Result}
use Rattle.peg_explain_files.specs.declared.ended.Ended.{Ended}
use Rattle.peg_explain_files.specs.declared.ended.ExplainFault.{ExplainFault}
use Rattle.peg_io.specs.NamedFile.{NamedFile}
use Rattle.peg_test_files.specs.TestQuestions.{TestQuestion}
use Rattle.peg_test_files.specs.Tested.{IsTested}
use Rattle.peg_tool.specs.Explanations.{explanation_result}
use Rattle.peg_tool.specs.declared.report.Findings.{Findings}
use Rattle.peg_tool.specs.declared.program.ProgramFault.{ProgramFault}

-- The result of a test over files and folders by name. It has the exit statuses of an explanation.
abbrev pub TestOutcome : TestQuestion → (file_at : List ℕ → NamedFile) → (old new : Option (List ℕ))
    → Result Findings ProgramFault → Type 0
TestOutcome question file_at old new result = (ended : Result Ended ExplainFault)
    × IsTested question file_at old new ended × (result ≡ explanation_result ended)
