use Rattle.std.proofs.Common.{◌<◌, arith, length, subst, sym}
use Rattle.peg_code.specs.Compiled.{Compiled}
use Rattle.peg_core.specs.Layout.{bodies_of}
use Rattle.peg_machine.specs.RunContract.{IsRun, NeverStores}
use Rattle.peg_machine.specs.SelectedTests.{listed}
use Rattle.peg_machine.specs.Traced.{GetsCalls}
use Rattle.peg_parser.proofs.CoreStarts.{length-bodies}
use Rattle.peg_parser.proofs.engine.Engine.run.Goals as goal

-- the runner's program is the engine's

pub run-requires-clause-rule : goal.run-requires-clause-rule
run-requires-clause-rule g c =
    subst (λ (program : Compiled). c.args.start < length program.core.bodies) (sym c.requires.program)
    (omega (arith, c.requires.start, length-bodies c.args.self.now))

pub returns-clause-run : goal.returns-clause-run
returns-clause-run g c =
    subst (λ (program : Compiled). IsRun program.shown (listed c.args.among) (bodies_of program.core)
    c.args.text.now c.args.start c.args.max_steps (NeverStores (λ any. (g.S.NodeStore.state any).memo.entries))
    (g.S.NodeStore.state c.args.store.now).memo.capacity (g.S.NodeStore.state c.run.new.store).memo.allocation_failed
    (GetsCalls g.W.Watch.records g.W.Watch.traced c.args.watch.now c.run.new.watch) c.run.result)
    c.requires.program c.run.ensures.run
