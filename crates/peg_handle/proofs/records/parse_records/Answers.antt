use Rattle.std.proofs.Common.{◌≡◌, ◌∙◌, ◌+◌, ◌≤◌, IfOk, List, arith, length, refl, subst, sym}
use Rattle.std.proofs.lemmas.List.{length-set}
use Rattle.peg_handle.specs.RecordTasks.{task_parse}
use Rattle.peg_handle.specs.Records.{AnswersRecords, no_records, node_room}
use Rattle.peg_handle.specs.declared.nodes.Node.{Node}
use Rattle.peg_handle.proofs.RecordLemmas.{answers_more, drop_further, drop_more_set_at, stops_before, used_more}
use Rattle.peg_handle.proofs.records.parse_records.Goals as goal

pub records-init : goal.records-init
records-init c = record {
  count = refl;
  room = refl;
  answers = no_records;
  used = omega arith;
  none = λ is. refl;
  session = c.session-session.ensures;
  others = refl;
  other_nodes = refl;
}

pub records-preserved : goal.records-preserved
records-preserved c =
    let adds = c.in-Ok.ensures.answered in
    let more = used_more _ _ c.in-Ok.answered c.records.used c.records.nodes c.answer_record.new.nodes adds in
    let kept : length c.answer_record.new.nodes ≡ length c.records.nodes = c.answer_record.auto.nodes in
    record {
      count = length-set c.records.records c.records.i c.in-Ok.answered ∙ c.records.invariant.count;
      room = kept ∙ c.records.invariant.room;
      answers = answers_more (task_parse c.args.task.now) c.args.records.now c.records.records c.records.nodes
          c.answer_record.new.nodes c.records.i c.records.used _ c.in-Ok.answered (omega arith)
          (omega (arith, c.records.invariant.count)) c.records.invariant.used c.records.invariant.others
          c.records.invariant.answers adds;
      used = subst (λ (n : _). c.records.used + c.in-Ok.answered.nodes ≤ node_room n) (sym kept) more.0;
      none = λ is. absurd (omega arith);
      session = c.answer_record.ensures.session;
      others = drop_more_set_at c.args.records.now c.records.records c.records.i c.in-Ok.answered
          c.records.invariant.others;
      other_nodes = more.1 ∙ drop_further c.args.nodes.now c.records.nodes c.records.used
          (c.records.used + c.in-Ok.answered.nodes) (omega arith) c.records.invariant.other_nodes;
    }

pub returns-in-Err-clause-answers : goal.returns-in-Err-clause-answers
returns-in-Err-clause-answers c =
    subst (λ (nodes : List Node). IfOk c.progress_before.result
    (AnswersRecords (task_parse c.args.task.now) c.args.records.now c.records.records c.args.nodes.now nodes))
    (sym c.in-Err.ensures.unchanged)
    (stops_before (task_parse c.args.task.now) c.args.records.now c.records.records c.args.nodes.now c.records.nodes
    c.records.i c.records.used _ c.in-Err.unanswered c.progress_before.result (omega arith) c.records.invariant.room
    c.records.invariant.used c.records.invariant.others c.records.invariant.other_nodes c.records.invariant.answers
    c.in-Err.ensures.unanswered c.progress_before.ensures.progress c.progress_before.ensures.later)
