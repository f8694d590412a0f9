use Rattle.std.proofs.Common.{ap, refl, ◌∙◌}
use Rattle.std.specs.FinMap as map
use Rattle.peg_core.specs.Layout.{bodies_of}
use Rattle.peg_memo.specs.MemoKey.{key_cmp}
use Rattle.peg_memo.specs.MemoMap.{entries_in}
use Rattle.peg_memo.specs.StoredResult.{StoredResult}
use Rattle.peg_machine.proofs.PackratRuns.{RanOnce-from_traces}
use Rattle.peg_machine.proofs.packrat.run_packrat.Goals as goal

pub run-requires-clause-empty : goal.run-requires-clause-empty
run-requires-clause-empty c =
    ap (λ pairs. map.len (entries_in pairs)) c.requires.empty ∙ map.len-empty key_cmp StoredResult

pub returns-clause-packrat : goal.returns-clause-packrat
returns-clause-packrat c =
    let traced = c.run.ensures.run.traced in (
      traced.0,
      traced.1 refl c.args.watch.now refl,
      RanOnce-from_traces (bodies_of c.args.program.now.core) c.args.text.now c.args.start c.args.memo.now.capacity
          c.run.new.memo.allocation_failed c.args.max_steps c.run.result traced.0 traced.2,
    )
