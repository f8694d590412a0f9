use Rattle.std.proofs.Common.{◌<◌, ◌∙◌, Result, Ok, Err, ap, arith, subst}
use Rattle.std.proofs.lemmas.List.Elements.{All-from_get_or}
use Rattle.peg_core.specs.Layout.{bodies_of}
use Rattle.peg_machine.specs.declared.answer.Answer.{Answer}
use Rattle.peg_machine.specs.declared.fault.RunFault.{RunFault}
use Rattle.peg_machine.specs.declared.fault.RunFault.TheVariants as run
use Rattle.peg_machine.specs.SelectedTests.{listed}
use Rattle.peg_machine.specs.RunContract.{IsRun, NeverStores}
use Rattle.peg_machine.specs.Traced.{GetsCalls, Traces}
use Rattle.peg_parser.specs.Engine.{shown_in}
use Rattle.peg_parser.proofs.ParseLemmas.{parse_of_run}
use Rattle.peg_parser.proofs.TraceLemmas.{engine-calls, engine-calls-in-order, engine-calls-so-far, engine-first-calls, engine-some-calls, engine-steps}
use Rattle.peg_parser.proofs.engine.Engine.answer.Goals as goal

-- ---- what the parse promises follows from what its run promises

pub returns-in-Ok-clause-parse : goal.returns-in-Ok-clause-parse
returns-in-Ok-clause-parse g c named found =
    parse_of_run (listed c.args.among) c.args.self.now c.args.text.now c.args.start named c.args.max_steps
    (NeverStores (λ any. (g.S.NodeStore.state any).memo.entries)) (g.S.NodeStore.state c.args.store.now).memo.capacity
    (g.S.NodeStore.state c.run.new.store).memo.allocation_failed
    (GetsCalls g.W.Watch.records g.W.Watch.traced c.args.watch.now c.run.new.watch) c.requires.start found
    c.a_selected_tree_has_no_other_rules.ensures
    (Ok c.in-Ok.answer)
    (All-from_get_or (λ byte. byte < 256) c.args.text.now 0 (λ i within. (c.type_inv.text i).fits))
    c.in-Ok.ensures.run

pub returns-in-Err-TextTooLong-clause-parse : goal.returns-in-Err-TextTooLong-clause-parse
returns-in-Err-TextTooLong-clause-parse g c named found =
    parse_of_run (listed c.args.among) c.args.self.now c.args.text.now c.args.start named c.args.max_steps
    (NeverStores (λ any. (g.S.NodeStore.state any).memo.entries)) (g.S.NodeStore.state c.args.store.now).memo.capacity
    (g.S.NodeStore.state c.run.new.store).memo.allocation_failed
    (GetsCalls g.W.Watch.records g.W.Watch.traced c.args.watch.now c.run.new.watch) c.requires.start found
    c.a_selected_tree_has_no_other_rules.ensures
    (Err run.TextTooLong)
    (All-from_get_or (λ byte. byte < 256) c.args.text.now 0 (λ i within. (c.type_inv.text i).fits))
    (subst (λ (result : Result Answer RunFault). IsRun (shown_in c.args.self.now) (listed c.args.among) (bodies_of c.args.self.now.program.core)
    c.args.text.now c.args.start c.args.max_steps (NeverStores (λ any. (g.S.NodeStore.state any).memo.entries)) (g.S.NodeStore.state c.args.store.now).memo.capacity
    (g.S.NodeStore.state c.run.new.store).memo.allocation_failed
    (GetsCalls g.W.Watch.records g.W.Watch.traced c.args.watch.now c.run.new.watch) result)
    (c.in-Err-TextTooLong.is ∙ ap Err c.in-Err-TextTooLong.field-0-is)
    c.run.ensures.run)

pub returns-in-Err-StepLimit-clause-parse : goal.returns-in-Err-StepLimit-clause-parse
returns-in-Err-StepLimit-clause-parse g c named found =
    parse_of_run (listed c.args.among) c.args.self.now c.args.text.now c.args.start named c.args.max_steps
    (NeverStores (λ any. (g.S.NodeStore.state any).memo.entries)) (g.S.NodeStore.state c.args.store.now).memo.capacity
    (g.S.NodeStore.state c.run.new.store).memo.allocation_failed
    (GetsCalls g.W.Watch.records g.W.Watch.traced c.args.watch.now c.run.new.watch) c.requires.start found
    c.a_selected_tree_has_no_other_rules.ensures
    (Err run.StepLimit)
    (All-from_get_or (λ byte. byte < 256) c.args.text.now 0 (λ i within. (c.type_inv.text i).fits))
    (subst (λ (result : Result Answer RunFault). IsRun (shown_in c.args.self.now) (listed c.args.among) (bodies_of c.args.self.now.program.core)
    c.args.text.now c.args.start c.args.max_steps (NeverStores (λ any. (g.S.NodeStore.state any).memo.entries)) (g.S.NodeStore.state c.args.store.now).memo.capacity
    (g.S.NodeStore.state c.run.new.store).memo.allocation_failed
    (GetsCalls g.W.Watch.records g.W.Watch.traced c.args.watch.now c.run.new.watch) result)
    (c.in-Err-StepLimit.is ∙ ap Err c.in-Err-StepLimit.field-0-is)
    c.run.ensures.run)

pub returns-in-Err-Memory-clause-parse : goal.returns-in-Err-Memory-clause-parse
returns-in-Err-Memory-clause-parse g c named found =
    parse_of_run (listed c.args.among) c.args.self.now c.args.text.now c.args.start named c.args.max_steps
    (NeverStores (λ any. (g.S.NodeStore.state any).memo.entries)) (g.S.NodeStore.state c.args.store.now).memo.capacity
    (g.S.NodeStore.state c.run.new.store).memo.allocation_failed
    (GetsCalls g.W.Watch.records g.W.Watch.traced c.args.watch.now c.run.new.watch) c.requires.start found
    c.a_selected_tree_has_no_other_rules.ensures
    (Err run.Memory)
    (All-from_get_or (λ byte. byte < 256) c.args.text.now 0 (λ i within. (c.type_inv.text i).fits))
    (subst (λ (result : Result Answer RunFault). IsRun (shown_in c.args.self.now) (listed c.args.among) (bodies_of c.args.self.now.program.core)
    c.args.text.now c.args.start c.args.max_steps (NeverStores (λ any. (g.S.NodeStore.state any).memo.entries)) (g.S.NodeStore.state c.args.store.now).memo.capacity
    (g.S.NodeStore.state c.run.new.store).memo.allocation_failed
    (GetsCalls g.W.Watch.records g.W.Watch.traced c.args.watch.now c.run.new.watch) result)
    (c.in-Err-Memory.is ∙ ap Err c.in-Err-Memory.field-0-is)
    c.run.ensures.run)

-- ---- the calls

-- the calls shown are those of Ford's record, and the steps are those of their bodies
pub returns-in-Ok-clause-traced : goal.returns-in-Ok-clause-traced
returns-in-Ok-clause-traced g c =
    let traced = c.in-Ok.ensures.run.traced in (
      record {
        calls = traced.0;
        of_record = engine-calls (listed c.args.among) c.args.self.now c.args.text.now c.args.start
            c.in-Ok.answer.outcome traced.0
            (All-from_get_or (λ byte. byte < 256) c.args.text.now 0 (λ i within. (c.type_inv.text i).fits))
            c.requires.start
            c.in-Ok.ensures.run.outcome traced.2.visited;
        steps = engine-steps c.args.self.now c.args.text.now c.args.start
            (g.S.NodeStore.state c.args.store.now).memo.capacity
            (g.S.NodeStore.state c.run.new.store).memo.allocation_failed c.in-Ok.answer traced.0 traced.2;
      },
      traced.1,
    )

-- without a memo they are the calls of Ford's record in order
pub returns-in-Ok-clause-in_order : goal.returns-in-Ok-clause-in_order
returns-in-Ok-clause-in_order g c never =
    engine-calls-in-order c.args.self.now c.args.text.now c.args.start
    (GetsCalls g.W.Watch.records g.W.Watch.traced c.args.watch.now c.run.new.watch)
    (All-from_get_or (λ byte. byte < 256) c.args.text.now 0 (λ i within. (c.type_inv.text i).fits)) c.requires.start
    (c.in-Ok.ensures.run.in_order never)

-- the calls of a run that was stopped
pub returns-in-Err-StepLimit-clause-stopped : goal.returns-in-Err-StepLimit-clause-stopped
returns-in-Err-StepLimit-clause-stopped g c is =
    let limit = c.in-Err-StepLimit.is ∙ ap Err c.in-Err-StepLimit.field-0-is in
    let traced = c.run.ensures.run.traced in (
      traced.0,
      traced.1,
      engine-calls-so-far c.args.self.now c.args.text.now c.args.start c.args.max_steps traced.0
          (All-from_get_or (λ byte. byte < 256) c.args.text.now 0 (λ i within. (c.type_inv.text i).fits))
          c.requires.start
          (subst (λ (result : Result Answer RunFault). Traces (bodies_of c.args.self.now.program.core) c.args.text.now
          c.args.start (g.S.NodeStore.state c.args.store.now).memo.capacity (g.S.NodeStore.state c.run.new.store).memo.allocation_failed
          c.args.max_steps result traced.0) limit traced.2),
    )

pub returns-in-Err-StepLimit-clause-stopped_in_order : goal.returns-in-Err-StepLimit-clause-stopped_in_order
returns-in-Err-StepLimit-clause-stopped_in_order g c never is =
    let bytes = (All-from_get_or (λ byte. byte < 256) c.args.text.now 0 (λ i within. (c.type_inv.text i).fits)) in
    let traced = c.run.ensures.run.stopped never (c.in-Err-StepLimit.is ∙ ap Err c.in-Err-StepLimit.field-0-is) in (
      traced.0,
      traced.1,
      engine-calls-so-far c.args.self.now c.args.text.now c.args.start c.args.max_steps traced.0 bytes c.requires.start
          traced.2.so_far,
      engine-first-calls c.args.self.now c.args.text.now c.args.start c.args.max_steps traced.0 bytes c.requires.start
          traced.2,
    )

-- the calls of a run that ran out of memory
pub returns-in-Err-Memory-clause-out_of_memory : goal.returns-in-Err-Memory-clause-out_of_memory
returns-in-Err-Memory-clause-out_of_memory g c is =
    let memory = c.in-Err-Memory.is ∙ ap Err c.in-Err-Memory.field-0-is in
    let traced = c.run.ensures.run.traced in (
      traced.0,
      traced.1,
      engine-some-calls c.args.self.now c.args.text.now c.args.start c.args.max_steps run.Memory traced.0
          (All-from_get_or (λ byte. byte < 256) c.args.text.now 0 (λ i within. (c.type_inv.text i).fits))
          c.requires.start
          (subst (λ (result : Result Answer RunFault). Traces (bodies_of c.args.self.now.program.core) c.args.text.now
          c.args.start (g.S.NodeStore.state c.args.store.now).memo.capacity (g.S.NodeStore.state c.run.new.store).memo.allocation_failed
          c.args.max_steps result traced.0) memory traced.2),
    )
