use Rattle.std.proofs.Common.{◌≡◌, ◌+◌, ◌∷◌, ◌++◌, [], All, List, ℕ, inl, length, map, sym, ◌∙◌, ap, subst}
use Rattle.std.proofs.lemmas.List.Elements.{All-push}
use Rattle.peg_memo.specs.StoreState.{with_nodes, StoreState}
use Rattle.peg_semantics.specs.Record.{RuleCall}
use Rattle.peg_machine.specs.Entries.{Entry, CallEntry, nodes_below}
use Rattle.peg_machine.specs.RunInvariant.{after_traced_call}
use Rattle.peg_machine.specs.Machine.{entry_of, state_of, context_of}
use Rattle.peg_machine.specs.MachineStates.{IsActive}
use Rattle.peg_runs.specs.OpenRows.{opened}
use Rattle.peg_runs.specs.PartialRuns.{RunsAt}
use Rattle.peg_machine.specs.declared.entry.Entry.TheVariants.{Frame}
use Rattle.peg_machine.proofs.CutLemmas.{cuts-same}
use Rattle.peg_machine.proofs.InputLemmas.{enters_of, rule-within}
use Rattle.peg_machine.proofs.MachineLemmas.{pushed_entry}
use Rattle.peg_machine.proofs.StateEnds.{calls}
use Rattle.peg_machine.proofs.machine.Machine.begin.Goals as goal

pub entry-self-requires : goal.entry-self-requires
entry-self-requires g c =
    let input = c.args.input in
    let old = c.args.self.now in
    let store = g.S.NodeStore.state c.args.store.now in
    let runs = c.requires.runs in
    let next = calls (context_of input) input.program.now.entries (enters_of input) runs.0 old.pc c.args.rule old.position
    (state_of old store) runs.1 c.requires.here runs.2 in
    rule-within input c.args.rule next.0 next.1

pub returns-clause-post : goal.returns-clause-post
returns-clause-post g c = λ trace runs unheld.
    let input = c.args.input in
    let context = context_of input in
    let old = c.args.self.now in
    let store = g.S.NodeStore.state c.args.store.now in
    let pair : RuleCall = record { rule = c.args.rule; position = old.position } in
    let next = calls context input.program.now.entries (enters_of input) trace old.pc c.args.rule old.position (state_of old store) runs
    c.requires.here unheld in
    let entry : next.0 ≡ c.entry-self.result = (let here = next.1 in let there = c.entry-self.ensures.number in cc) in
    let entries : map entry_of c.push.new.self.items
    ≡ map entry_of old.stack.items ++ CallEntry pair (old.pc + 1) (length store.nodes) ∷ [] =
    pushed_entry old.stack.items c.push.new.self.items (Frame c.args.rule old.position (old.pc + 1) c.len.result)
    c.in_ok-push.ensures.items
    ∙ ap (λ (n : ℕ). map entry_of old.stack.items ++ CallEntry pair (old.pc + 1) n ∷ []) c.len.ensures.number in
    let after : g.S.NodeStore.state c.open_node.new.store ≡ with_nodes store (opened context.shown store.nodes pair) =
    c.in_ok-open_node.ensures.state in
    inl (subst
    (λ (at : ℕ). IsActive context (after_traced_call pair trace)
    (RunsAt at old.position (g.S.NodeStore.state c.open_node.new.store).nodes)
    (record (state_of old (g.S.NodeStore.state c.open_node.new.store)) { entries = map entry_of c.push.new.self.items }))
    entry
    (subst
    (λ (entries : List Entry). IsActive context (after_traced_call pair trace)
    (RunsAt next.0 old.position (g.S.NodeStore.state c.open_node.new.store).nodes)
    (record (state_of old (g.S.NodeStore.state c.open_node.new.store)) { entries = entries }))
    (sym entries)
    (subst
    (λ (store : StoreState). IsActive context (after_traced_call pair trace) (RunsAt next.0 old.position store.nodes)
    (record (state_of old store) {
      entries = map entry_of old.stack.items
          ++ CallEntry pair (old.pc + 1) (length (g.S.NodeStore.state c.args.store.now).nodes) ∷ [];
    }))
    (sym after) next.2)))

pub returns-clause-cuts : goal.returns-clause-cuts
returns-clause-cuts g c =
    let old = c.args.self.now in
    let last = Frame c.args.rule old.position (old.pc + 1) c.len.result in
    let Cut : Entry → Type 0 = λ entry. g.S.NodeStore.cuts c.args.store.now (nodes_below entry) in
    cuts-same (g.S.NodeStore.cuts c.args.store.now) (g.S.NodeStore.cuts c.open_node.new.store) c.in_ok-open_node.ensures.cuts
    (map entry_of c.push.new.self.items)
    (subst (All Cut)
    (sym (pushed_entry old.stack.items c.push.new.self.items last c.in_ok-push.ensures.items))
    (All-push Cut (map entry_of old.stack.items) (entry_of last) c.requires.cuts c.len.ensures.cut))
