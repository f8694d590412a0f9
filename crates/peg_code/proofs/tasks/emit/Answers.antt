use Rattle.std.proofs.Common.{length, ap, ◌∙◌, arith}
use Rattle.peg_code.proofs.TaskLemmas.{last-fits, last-emitted, last-room, last-weight, length-code_after, others-fit}
use Rattle.peg_code.proofs.tasks.emit.Goals as goal

pub do_task-requires-clause-fits : goal.do_task-requires-clause-fits
do_task-requires-clause-fits c =
    last-fits c.args.core.now.forms c.lays.tasks.items c.pop.new.self.items c.in-Some.task c.in-Some.ensures.items c.lays.invariant.fit

pub do_task-requires-clause-room : goal.do_task-requires-clause-room
do_task-requires-clause-room c =
    let forms = c.args.core.now.forms in
    let old = c.args.code.now in
    let left = last-room forms c.lays.tasks.items c.pop.new.self.items c.in-Some.task c.in-Some.ensures.items c.lays.code in
    omega (arith, left, ap length c.lays.invariant.emitted, length-code_after forms old c.args.number, c.requires.room)

pub lays-smaller : goal.lays-smaller
lays-smaller c =
    let weights = last-weight c.args.core.now.forms c.lays.tasks.items c.pop.new.self.items c.in-Some.task c.in-Some.ensures.items in
    omega (arith, weights, c.in_ok-do_task.ensures.lighter)

pub lays-preserved : goal.lays-preserved
lays-preserved c =
    let forms = c.args.core.now.forms in
    let tasks = c.lays.tasks.items in
    let rest = c.pop.new.self.items in
    let taken = c.in-Some.ensures.items in
    record {
      emitted = c.in_ok-do_task.ensures.emitted ∙ (last-emitted forms tasks rest c.in-Some.task taken c.lays.code ∙ c.lays.invariant.emitted);
      fit = c.in_ok-do_task.ensures.fit (others-fit forms tasks rest c.in-Some.task taken c.lays.invariant.fit);
    }
