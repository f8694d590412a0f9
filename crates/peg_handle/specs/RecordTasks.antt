-- Describes code: how the records of a text are parsed, and what one of them adds.
use Rattle.std.specs.Prelude.{◌≡◌, ◌≤◌, ◌+◌, ℕ, List, ◌++◌, Result, drop, length, take}
use Rattle.peg_parser.specs.Engine.{shown_parser_rules}
use Rattle.peg_semantics.specs.Rules.{Rule}
use Rattle.peg_handle.specs.Records.{IsRecordResult, LacksRoom, RecordParse, answered_record, node_room, record_parse}
use Rattle.peg_handle.specs.Records.{result_nodes}
use Rattle.peg_handle.specs.declared.content.Match.{Match}
use Rattle.peg_handle.specs.declared.nodes.Node.{Node}
use Rattle.peg_handle.specs.declared.record_answers.Unanswered.{Unanswered}
use Rattle.peg_handle.specs.declared.record_answers.Unanswered.TheVariants.{Memory, Room}
use Rattle.peg_handle.specs.declared.records.RecordTask.{RecordTask}
use Rattle.peg_handle.specs.declared.records.TextRecord.{TextRecord}

-- what the records of a task are parsed by
abbrev pub task_parse : RecordTask → RecordParse
task_parse task = record_parse task.selecting.now task.text.now task.start.now task.memo task.steps

abbrev pub task_rules : RecordTask → List Rule
task_rules task = shown_parser_rules task.selecting.now.parser

-- a record has its answer, and its nodes come after the first ones, which are unchanged
pub record AddsAnswer (asked : RecordParse) (given : TextRecord) (used : ℕ) (old new : List Node) (answered : TextRecord)
    : Type 0 where
  pub result : Result Match ℕ
  pub is : IsRecordResult asked given result
  pub answer : answered ≡ answered_record given used result
  pub added : take (used + length (result_nodes result)) new ≡ take used old ++ result_nodes result
  pub others : drop (used + length (result_nodes result)) new ≡ drop (used + length (result_nodes result)) old
  pub within : used + length (result_nodes result) ≤ node_room (length old)

-- why a record has no answer: there is no room for its nodes, or an allocation failed
abbrev pub IsUnanswered : RecordParse → (given : TextRecord) → (capacity used : ℕ) → Unanswered → Type 0
IsUnanswered asked given capacity used Memory = Unit {0}
IsUnanswered asked given capacity used (Room wanted) = LacksRoom asked given capacity used wanted

-- the number of nodes for which there is no room; 0 if an allocation failed
abbrev pub wanted_nodes : Unanswered → ℕ
wanted_nodes Memory = 0
wanted_nodes (Room wanted) = wanted
