-- What is printed for a question about the records of texts.
use Rattle.std.specs.Prelude.{◌≡◌, ◌⊎◌, ℕ, ◌+◌, List, [], Option, None, Some, OnOk, Result, Ok, Err, codes, map, string_bytes, unwrap_or}
use Rattle.std.specs.Io.KnownBytes.{Keeps}
use Rattle.peg_explain.specs.RefusalMessages.{AreRulesOfCycle, IsRefusalMessage}
use Rattle.peg_explain_files.specs.Contents.{IsContentOf}
use Rattle.peg_explain_files.specs.Explained.{LeadsUnread, no_start_message}
use Rattle.peg_explain_files.specs.Printings.{WritesAlone}
use Rattle.peg_explain_files.specs.declared.content.Content.{Content}
use Rattle.peg_explain_files.specs.declared.content.Content.TheVariants.{Bytes, Unopened, Unreadable}
use Rattle.peg_explain_files.specs.declared.ended.Ended.{Ended}
use Rattle.peg_explain_files.specs.declared.ended.ExplainFault.{ExplainFault}
use Rattle.peg_explain_files.specs.declared.ended.ExplainFault.TheVariants as explaining
use Rattle.peg_explain_files.specs.declared.ended.Verdict.{Verdict}
use Rattle.peg_explain_files.specs.declared.ended.Verdict.TheVariants as verdict
use Rattle.peg_io.specs.NamedFile.{NamedFile}
use Rattle.peg_messages.specs.FileNames.{shown_name}
use Rattle.peg_metagrammar.specs.Notation.{max_file_bytes}
use Rattle.peg_parser.specs.Accepts.{Accepts}
use Rattle.peg_parser.specs.Cause.{Cause}
use Rattle.peg_parser.specs.Refusals.{IsRefusalOf}
use Rattle.peg_record_files.specs.Streams.{ArePresent, AreStreams}
use Rattle.peg_record_files.specs.declared.fault.RecordsFault.{RecordsFault}
use Rattle.peg_record_files.specs.declared.fault.RecordsFault.TheVariants.{Output, Memory}
use Rattle.peg_record_files.specs.declared.outcome.RecordOutcome.{RecordOutcome}
use Rattle.peg_record_files.specs.declared.outcome.RecordOutcome.TheVariants as outcome
use Rattle.peg_semantics.specs.Rules.{Rule, defined_at}
use Rattle.peg_semantics.specs.Starts.{start_name}
use Rattle.peg_explain_records.specs.Questions.{RecordsQuestion}
use Rattle.peg_explain_records.specs.RecordMessages.{RecordSetting, WritesMessages, setting_of, text_names}

-- ---- without records

-- What is written for a grammar file by which no record can be explained: the message of a refused file, or that no rule
-- has the name of the start.
pub data Refuses (question : RecordsQuestion) (file : List ℕ) (old new : Option (List ℕ))
    (ended : Result Ended ExplainFault) : Type 0 where
  refused : {rules : List Rule} {cause : Cause} {message : List ℕ} → IsRefusalOf file cause
      → AreRulesOfCycle file cause rules
      → IsRefusalMessage (shown_name question.grammar) file (map defined_at rules) cause message
      → WritesAlone question.printing message verdict.Refused old new ended → Refuses question file old new ended
  no_such_start : {rules : List Rule} → Accepts file rules → start_name rules question.start ≡ None
      → WritesAlone question.printing (no_start_message question.grammar (unwrap_or question.start []))
      verdict.NoSuchStart old new ended → Refuses question file old new ended

-- how an explanation ends before a record is read, by what is read of the grammar file
abbrev pub EndsEarly : RecordsQuestion → Content → (old new : Option (List ℕ)) → Result Ended ExplainFault → Type 0
EndsEarly question (Bytes file) old new ended = Refuses question file.items old new ended
EndsEarly question Unopened old new ended =
    LeadsUnread question.grammar (codes ": can't be opened\n") question.printing old new ended
EndsEarly question Unreadable old new ended =
    LeadsUnread question.grammar (codes ": can't be read\n") question.printing old new ended

-- an end of an explanation of texts as one of records
abbrev pub early_end : Result Ended ExplainFault → Result Ended RecordsFault
early_end (Ok ended) = Ok ended
early_end (Err explaining.Write) = Err Output
early_end (Err explaining.Memory) = Err Memory

-- ---- records

-- the verdict for the worst outcome of records
abbrev pub outcome_verdict : RecordOutcome → Verdict
outcome_verdict outcome.Matches = verdict.Matches
outcome_verdict outcome.Differs = verdict.Differs
outcome_verdict outcome.Refused = verdict.OverLimit

-- an explanation of records ends as its records do: there is no line for standard error
abbrev pub IsEndOf : Result RecordOutcome RecordsFault → Result Ended RecordsFault → Type 0
IsEndOf (Ok worst) (Ok ended) = (string_bytes ended.faults ≡ []) × (ended.verdict ≡ outcome_verdict worst)
IsEndOf (Ok worst) (Err fault) = ⊥
IsEndOf (Err fault) (Ok ended) = ⊥
IsEndOf (Err fault) (Err stated) = stated ≡ fault

-- The records of the texts are explained by an accepted grammar file whose rules have the start. Without a fault each text
-- could be opened. It promises nothing of the records if the bytes of a text aren't specified.
pub record ExplainsRecords (question : RecordsQuestion) (file_at : List ℕ → NamedFile) (input : Option (List ℕ))
    (file : List ℕ) (old new : Option (List ℕ)) (result : Result Ended RecordsFault) : Type 0 where
  pub rules : List Rule
  pub from : List ℕ
  pub accepts : Accepts file rules
  pub starts : start_name rules question.start ≡ Some from
  pub present : OnOk result (ArePresent file_at question.texts)
  pub writes : (streams : List (List ℕ)) → AreStreams file_at input question.texts streams
      → (ended : Result RecordOutcome RecordsFault)
      × WritesMessages (setting_of question file rules) (text_names question.texts) streams old new ended
      × IsEndOf ended result

-- the whole grammar file is read, and holds these bytes
abbrev pub IsFileOf : Content → (file : List ℕ) → Type 0
IsFileOf (Bytes held) file = held.items ≡ file
IsFileOf Unopened file = ⊥
IsFileOf Unreadable file = ⊥

-- what is written by what is read of the grammar file
abbrev pub IsAnswerBy : RecordsQuestion → (file_at : List ℕ → NamedFile) → (input : Option (List ℕ)) → Content
    → (old new : Option (List ℕ)) → Result Ended RecordsFault → Type 0
IsAnswerBy question file_at input content old new result =
    ((ended : Result Ended ExplainFault) × EndsEarly question content old new ended × (result ≡ early_end ended))
    ⊎ ((file : List ℕ) × IsFileOf content file × ExplainsRecords question file_at input file old new result)

-- What is written for a question about records, over files by name and an input, and how that ends. The grammar file is
-- read up to its limit and one byte more. If an allocation fails before the first record, nothing is written.
abbrev pub IsRecordsExplained : RecordsQuestion → (file_at : List ℕ → NamedFile) → (input : Option (List ℕ))
    → (old new : Option (List ℕ)) → Result Ended RecordsFault → Type 0
IsRecordsExplained question file_at input old new result = ((result ≡ Err Memory) × Keeps old new)
    ⊎ ((content : Content) × IsContentOf (max_file_bytes + 1) (file_at question.grammar) content
    × IsAnswerBy question file_at input content old new result)
