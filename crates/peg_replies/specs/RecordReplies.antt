-- The reply to a task on a grammar file and a record.
use Rattle.std.specs.Prelude.{◌≡◌, ◌⊎◌, ℕ, List, [], IsSome, None}
use Rattle.peg_json.specs.RecordLines.{record_line}
use Rattle.peg_json.specs.Reply.{Reply, printed_line, status_of}
use Rattle.peg_parser.specs.Accepts.{Accepts}
use Rattle.peg_record_files.specs.declared.outcome.RecordOutcome.{RecordOutcome}
use Rattle.peg_record_files.specs.declared.outcome.RecordOutcome.TheVariants.{Matches, Differs, Refused}
use Rattle.peg_record_files.specs.declared.place.RecordPlace.{RecordPlace}
use Rattle.peg_semantics.specs.Rules.{Rule}
use Rattle.peg_semantics.specs.Starts.{start_name}
use Rattle.peg_replies.specs.PrintedNodes.{first_unknown}
use Rattle.peg_replies.specs.Replies.{IsPrinted, RepliesTo}
use Rattle.peg_replies.specs.Task.{ToolTask, ParseTask}

-- the exit status for the worst outcome of records
abbrev pub outcome_status : RecordOutcome → ℕ
outcome_status Matches = 0
outcome_status Differs = 1
outcome_status Refused = 6

-- a parse of a record ends with this status
abbrev pub IsStatusOfParse : ℕ → Type 0
IsStatusOfParse status = (outcome : RecordOutcome) × (status ≡ outcome_status outcome)

-- The line and the outcome of the record at a place: those of the reply to a task on a grammar file and the record as
-- its text. The line has the number of the place as its first member.
abbrev pub IsRecordReply : (file : List ℕ) → ToolTask → RecordPlace → (text line : List ℕ) → RecordOutcome → Type 0
IsRecordReply file task place text line outcome = (reply : Reply) × RepliesTo file text task reply
    × (line ≡ record_line place.number (printed_line file reply)) × (outcome_status outcome ≡ status_of reply)

-- texts can be parsed: the grammar file is accepted, and its rules have the names of the task
abbrev pub HasParse : ToolTask → (file : List ℕ) → Type 0
HasParse (ParseTask start memo steps all form nodes with_bytes) file = (rules : List Rule) × Accepts file rules
    × (first_unknown rules nodes ≡ None) × IsSome (start_name rules start)
HasParse other file = ⊥

-- No record is parsed: the line is that of a parse of the empty text, which reports the grammar file or an unknown name.
abbrev pub RefusesRecords : ToolTask → (file : List ℕ) → (line : List ℕ) → (status : ℕ) → Type 0
RefusesRecords task file line status = IsPrinted task file [] line status × ((status ≡ 2) ⊎ (status ≡ 3))
