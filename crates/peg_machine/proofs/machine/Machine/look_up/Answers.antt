use Rattle.std.proofs.Common.{◌≡◌, ◌≢◌, ◌+◌, ℕ, None, Some, refl, sym, subst}
use Rattle.std.specs.FinMap as finite
use Rattle.peg_memo.specs.MemoMap.{MemoMap}
use Rattle.peg_memo.specs.StoredResult.{StoredResult, StoredFailure, StoredMatch}
use Rattle.peg_memo.specs.StoreState.{Recalls, StoreState}
use Rattle.peg_memo.specs.declared.node_store.Recalled.{Recalled}
use Rattle.peg_machine.specs.RunInvariant.{after_hit}
use Rattle.peg_machine.specs.Machine.{state_of, context_of, IsFailing}
use Rattle.peg_machine.specs.MachineStates.{IsActive}
use Rattle.peg_runs.specs.PartialRuns.{RunsAt}
use Rattle.peg_machine.proofs.StateEnds.{hits_failure, hits_match}
use Rattle.peg_machine.proofs.machine.Machine.look_up.Goals as goal

-- an entry that is found is not none
there_is : (state : MemoMap) (rule position : ℕ) (result : StoredResult) → finite.get state (rule, position) ≡ Some result
    → finite.get state (rule, position) ≢ None
there_is state rule position result there none = cc

pub returns-in-Nothing-clause-post : goal.returns-in-Nothing-clause-post
returns-in-Nothing-clause-post g c = λ trace runs.
    let recalls = subst
    (λ (recalled : Recalled). Recalls (g.S.NodeStore.state c.args.store.now) (c.args.rule, c.args.self.now.position) recalled
    (g.S.NodeStore.state c.recall.new.self))
    c.in-Nothing.is c.in_ok-recall.ensures.recalled in
    (refl, recalls.0, recalls.1)

pub returns-in-Failed-clause-post : goal.returns-in-Failed-clause-post
returns-in-Failed-clause-post g c = λ trace runs.
    let old = c.args.self.now in
    let context = context_of c.args.input in
    let store = g.S.NodeStore.state c.args.store.now in
    let recalls = subst
    (λ (recalled : Recalled). Recalls store (c.args.rule, old.position) recalled (g.S.NodeStore.state c.recall.new.self))
    c.in-Failed.is c.in_ok-recall.ensures.recalled in
    let next = hits_failure context trace (state_of old store) old.pc old.position c.args.rule runs c.requires.here recalls.1 in (
      there_is store.memo.entries c.args.rule old.position StoredFailure recalls.1,
      next.0,
      subst (λ (after : StoreState). IsFailing context (after_hit next.0 trace) old after) (sym recalls.0) next.1,
    )

pub returns-in-Matched-clause-post : goal.returns-in-Matched-clause-post
returns-in-Matched-clause-post g c = λ trace runs.
    let old = c.args.self.now in
    let context = context_of c.args.input in
    let store = g.S.NodeStore.state c.args.store.now in
    let end = c.in-Matched.end in
    let recalls = subst
    (λ (recalled : Recalled). Recalls store (c.args.rule, old.position) recalled (g.S.NodeStore.state c.recall.new.self))
    c.in-Matched.is c.in_ok-recall.ensures.recalled in
    let next = hits_match context trace (state_of old store) old.pc old.position c.args.rule runs c.requires.here end
    recalls.0 recalls.1 in (
      there_is store.memo.entries c.args.rule old.position (StoredMatch end recalls.0) recalls.1,
      next.0,
      subst
          (λ (after : StoreState). IsActive context (after_hit next.0 trace) (RunsAt (old.pc + 1) end after.nodes) (state_of old after))
          (sym recalls.2) next.1,
    )
