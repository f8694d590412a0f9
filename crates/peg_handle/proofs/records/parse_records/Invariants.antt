use Rattle.std.proofs.Common.{◌≡◌, ◌≤◌, drop, length, take}
use Rattle.peg_parser.specs.Sessions.{IsSessionOf}
use Rattle.peg_handle.specs.RecordTasks.{task_parse}
use Rattle.peg_handle.specs.Records.{AreRecordAnswers, node_room}
use Rattle.peg_handle.proofs.records.parse_records.Given as goal

-- the first `i` records have their answers, and what comes after them and after their nodes is as it was
abbrev pub invariant-records : goal.invariant-records
invariant-records l = record {
  count : length l.records ≡ length l.initial.records;
  room : length l.nodes ≡ length l.initial.nodes;
  answers : AreRecordAnswers (task_parse l.task) (take l.i l.initial.records) (take l.i l.records) (take l.used l.nodes);
  used : l.used ≤ node_room (length l.nodes);
  none : l.i ≡ 0 → l.used ≡ 0;
  session : IsSessionOf l.task.selecting.now.parser l.session;
  others : drop l.i l.records ≡ drop l.i l.initial.records;
  other_nodes : drop l.used l.nodes ≡ drop l.used l.initial.nodes;
}
