-- Describes code: what makes the messages of records, and how functions end that explain them.
use Rattle.std.specs.Prelude.{◌≡◌, ◌⊎◌, ℕ, List, Option, Some, Result, Err}
use Rattle.std.specs.Io.KnownBytes.{Keeps}
use Rattle.peg_explain.specs.Explainers.{IsExplainerOf}
use Rattle.peg_explain.specs.declared.style.ItemStyle.{ItemStyle}
use Rattle.peg_explain_files.specs.declared.ended.Ended.{Ended}
use Rattle.peg_explain_files.specs.declared.ended.ExplainFault.{ExplainFault}
use Rattle.peg_explain_files.specs.declared.printing.Printing.{Printing}
use Rattle.peg_io.specs.NamedFile.{NamedFile}
use Rattle.peg_parser.specs.Parser.{start_named}
use Rattle.peg_record_files.specs.declared.fault.RecordsFault.{RecordsFault}
use Rattle.peg_record_files.specs.declared.fault.RecordsFault.TheVariants.{Memory}
use Rattle.peg_record_files.specs.declared.outcome.RecordOutcome.{RecordOutcome}
use Rattle.peg_record_files.specs.declared.place.RecordPlace.{RecordPlace}
use Rattle.peg_semantics.specs.Rules.{Rule}
use Rattle.peg_semantics.specs.Starts.{start_name}
use Rattle.peg_explain_records.specs.Questions.{RecordsQuestion}
use Rattle.peg_explain_records.specs.RecordMessages.{IsRecordMessage, setting_of}
use Rattle.peg_explain_records.specs.RecordsExplained.{ExplainsRecords, Refuses, early_end}
use Rattle.peg_explain_records.specs.declared.printer.RecordExplainer.{RecordExplainer}

-- a question that a record explainer answers
pub record IsAskedOf (explainer : RecordExplainer) (question : RecordsQuestion) : Type 0 where
  pub start : question.start ≡ start_named explainer.options.now
  pub memo : question.memo ≡ explainer.options.now.memo
  pub steps : question.steps ≡ explainer.options.now.steps
  pub style : question.style ≡ explainer.explainer.now.style
  pub printing : question.printing ≡ explainer.printing
  pub max_errors : question.max_errors ≡ explainer.max_errors

-- the message and the outcome of a record by a record explainer
abbrev pub IsMessageBy : RecordExplainer → RecordPlace → (text message : List ℕ) → RecordOutcome → Type 0
IsMessageBy by place text message outcome = (file : List ℕ) (rules : List Rule) (from : List ℕ)
    (question : RecordsQuestion) → IsExplainerOf file rules by.explainer.now
    → start_name rules (start_named by.options.now) ≡ Some from → IsAskedOf by question
    → IsRecordMessage (setting_of question file rules) by.name.now place text message outcome

-- what is written for an accepted grammar file: nothing, if an allocation fails before a record is read; or that no rule
-- has the name of the start; or what is written for the records
abbrev pub LeadsByParser : RecordsQuestion → (file_at : List ℕ → NamedFile) → (input : Option (List ℕ))
    → (file : List ℕ) → (old new : Option (List ℕ)) → Result Ended RecordsFault → Type 0
LeadsByParser question file_at input file old new result = ((result ≡ Err Memory) × Keeps old new)
    ⊎ (((ended : Result Ended ExplainFault) × Refuses question file old new ended × (result ≡ early_end ended))
    ⊎ ExplainsRecords question file_at input file old new result)
