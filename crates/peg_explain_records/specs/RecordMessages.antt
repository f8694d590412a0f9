-- The messages of the records of texts.
use Rattle.std.specs.Prelude.{◌≡◌, ℕ, List, [], ◌∷◌, ◌++◌, Option, None, Some, Result, Ok, Err, codes, if◌then◌else◌, leb}
use Rattle.std.specs.Io.KnownBytes.{Appends}
use Rattle.peg_explain_files.specs.Entries.{message_of}
use Rattle.peg_explain_files.specs.Printings.{printed_by}
use Rattle.peg_explain_files.specs.TextReports.{IsReportIn}
use Rattle.peg_explain_files.specs.declared.printing.Printing.{Printing}
use Rattle.peg_explain_files.specs.declared.printing.Printing.TheVariants.{Nothing}
use Rattle.peg_explain_files.specs.declared.reports.TextReport.{TextReport}
use Rattle.peg_explain_files.specs.declared.reports.TextReport.TheVariants as report
use Rattle.peg_messages.specs.FileNames.{shown_name}
use Rattle.peg_messages.specs.declared.lines.TextLines.TheVariants.{Part}
use Rattle.peg_record_files.specs.Places.{first_place}
use Rattle.peg_record_files.specs.RecordReplies.{HaveReplies, HaveRepliesInPart, worse_outcome}
use Rattle.peg_record_files.specs.declared.fault.RecordsFault.{RecordsFault}
use Rattle.peg_record_files.specs.declared.filter.RecordFilter.TheVariants.{All}
use Rattle.peg_record_files.specs.declared.outcome.RecordOutcome.{RecordOutcome}
use Rattle.peg_record_files.specs.declared.outcome.RecordOutcome.TheVariants.{Matches, Differs, Refused}
use Rattle.peg_record_files.specs.declared.place.RecordPlace.{RecordPlace}
use Rattle.peg_records.specs.Records.{records}
use Rattle.peg_semantics.specs.Rules.{Rule}
use Rattle.peg_explain_records.specs.Questions.{RecordsQuestion}

-- what records are explained by: a question, a grammar file and its rules
pub record RecordSetting : Type 0 where
  pub question : RecordsQuestion
  pub file : List ℕ
  pub rules : List Rule

abbrev pub setting_of : RecordsQuestion → (file : List ℕ) → List Rule → RecordSetting
setting_of question file rules = record { question = question; file = file; rules = rules }

-- ---- one record

-- the outcome of a record: over a limit, it is refused
abbrev pub report_outcome : TextReport → RecordOutcome
report_outcome report.Matches = Matches
report_outcome (report.Differs message) = Differs
report_outcome report.TooLong = Refused
report_outcome report.TooManySteps = Refused
report_outcome report.NotUtf8 = Refused
report_outcome report.Unopened = Refused
report_outcome report.Unreadable = Refused

-- What is printed for the record at a place: no message if the text has as many as the limit allows, since each record
-- that failed before it has one.
abbrev pub printing_at : Printing → (max_errors : Option ℕ) → RecordPlace → Printing
printing_at printing None place = printing
printing_at printing (Some most) place = if leb most place.failed then Nothing else printing

-- The message and the outcome of the record at a place of the text with a name. They are what is reported of the record as
-- a text of its own, before which the text has the line feeds of its place.
abbrev pub IsRecordMessage : RecordSetting → (name : List ℕ) → RecordPlace → (text message : List ℕ) → RecordOutcome
    → Type 0
IsRecordMessage setting name place text message outcome =
    let question = setting.question in (reported : TextReport)
    × IsReportIn setting.file setting.rules question.style question.start question.memo question.steps (Part place.line_feeds)
    (shown_name name) text reported
    × (message ≡ printed_by (printing_at question.printing question.max_errors place) (message_of name reported))
    × (outcome ≡ report_outcome reported)

-- ---- the records of texts

-- the name of the input in messages
abbrev pub input_name : List ℕ
input_name = codes "standard input"

-- the names of what is read: the texts, or the input if no text is named
abbrev pub text_names : (texts : List (List ℕ)) → List (List ℕ)
text_names [] = input_name ∷ []
text_names (text ∷ texts) = text ∷ texts

-- What is written for the texts with these names, which hold these bytes: the messages of their records, in order.
-- `worst` is the worst outcome of a record. The places of the records are those in their own text.
pub data HaveMessages (setting : RecordSetting) : (names streams : List (List ℕ)) → (written : List ℕ)
    → (worst : RecordOutcome) → Type 0 where
  no_text : HaveMessages setting [] [] [] Matches
  a_text : {name stream written later : List ℕ} {names streams : List (List ℕ)} {worst other : RecordOutcome}
      → HaveReplies (IsRecordMessage setting name) All setting.question.end first_place (records setting.question.end stream) written worst
      → HaveMessages setting names streams later other
      → HaveMessages setting (name ∷ names) (stream ∷ streams) (written ++ later) (worse_outcome worst other)

-- a part of what is written for them: the messages of the first texts, and the start of those of the next one
pub record HaveMessagesInPart (setting : RecordSetting) (names streams : List (List ℕ)) (part : List ℕ) : Type 0 where
  pub first_names : List (List ℕ)
  pub first_streams : List (List ℕ)
  pub name : List ℕ
  pub stream : List ℕ
  pub later_names : List (List ℕ)
  pub later_streams : List (List ℕ)
  pub all_names : names ≡ first_names ++ name ∷ later_names
  pub all_streams : streams ≡ first_streams ++ stream ∷ later_streams
  pub written : List ℕ
  pub worst : RecordOutcome
  pub first : HaveMessages setting first_names first_streams written worst
  pub started : List ℕ
  pub next : HaveRepliesInPart (IsRecordMessage setting name) All setting.question.end first_place (records setting.question.end stream) started
  pub is : part ≡ written ++ started

-- What is written for the records of texts: their messages, and the worst outcome is returned; with a fault, a part of
-- the messages.
abbrev pub WritesMessages : RecordSetting → (names streams : List (List ℕ)) → (old new : Option (List ℕ))
    → Result RecordOutcome RecordsFault → Type 0
WritesMessages setting names streams old new (Ok worst) =
    (written : List ℕ) × HaveMessages setting names streams written worst × Appends old new written
WritesMessages setting names streams old new (Err fault) =
    (part : List ℕ) × HaveMessagesInPart setting names streams part × Appends old new part
