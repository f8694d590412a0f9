use Rattle.std.proofs.Common.{◌≡◌, ◌≤◌, ◌∷◌, ◌++◌, [], All, List, ℕ, inl, length, map, arith, sym, ◌∙◌, ap, refl, subst}
use Rattle.std.proofs.lemmas.List.Elements.{All-cons, All-nil}
use Rattle.peg_memo.specs.StoreState.{with_nodes, StoreState}
use Rattle.peg_machine.specs.Entries.{Entry, CallEntry, nodes_below}
use Rattle.peg_machine.specs.Machine.{trace_from, entry_of, context_of}
use Rattle.peg_machine.specs.Traced.{starts_at}
use Rattle.peg_machine.specs.MachineStates.{IsActive}
use Rattle.peg_code.specs.ShownRules.{is_shown_by}
use Rattle.peg_runs.specs.OpenRows.{open_row, root_rows}
use Rattle.peg_runs.specs.PartialRuns.{RunsAt}
use Rattle.peg_machine.specs.declared.entry.Entry as code
use Rattle.peg_machine.specs.declared.entry.Entry.TheVariants.{Frame}
use Rattle.peg_machine.proofs.InputLemmas.{enters_of}
use Rattle.peg_machine.proofs.StateEnds.{begins}
use Rattle.peg_machine.proofs.machine.Machine.at_start.Given.{Over}
use Rattle.peg_machine.proofs.machine.Machine.at_start.Goals as goal
use Rattle.peg_machine.proofs.machine.Machine.at_start.Goals.{After-entry}

-- the stack has the call of the start
entries_are : (g : Over) (c : After-entry g)
    → map entry_of c.push.new.self.items
    ≡ CallEntry (starts_at c.args.input.start) 0
    (length (root_rows (is_shown_by c.args.input.program.now.shown) (starts_at c.args.input.start))) ∷ []
entries_are g c =
    let frame = Frame c.args.input.start 0 0 c.in_ok-rows.rows in
    ap (map entry_of)
    (◌∙◌ {A = List code.Entry} c.in_ok-push.ensures.items
    (ap (λ (before : List code.Entry). before ++ frame ∷ []) c.new-stack.ensures.items))
    ∙ ap (λ (count : ℕ). CallEntry (starts_at c.args.input.start) 0 count ∷ []) c.in_ok-rows.ensures.rows

pub returns-clause-post : goal.returns-clause-post
returns-clause-post g c = λ answer answers empty.
    let input = c.args.input in
    let context = context_of input in
    let store = g.S.NodeStore.state c.args.store.now in
    let trace = trace_from input store.memo.capacity answer in
    let pair = starts_at c.args.input.start in
    let root = length (root_rows context.shown pair) in
    let failures = c.in_ok-failures.failures.failures.items in
    let least : 0 ≤ length input.text.now = omega arith in
    let first = begins context input.program.now.entries (enters_of input) trace failures store.memo refl refl refl refl empty answers least
    c.in_ok-failures.ensures.nothing (c.in_ok-failures.ensures.count ∙ c.terminals.ensures.count) in
    let entry : first.0 ≡ c.entry.result = (let here = first.1 in let there = c.entry.ensures.number in cc) in
    let after : g.S.NodeStore.state c.open_root.new.store ≡ with_nodes store (open_row pair ∷ []) = c.in_ok-rows.ensures.state in
    inl (subst
    (λ (at : ℕ). IsActive context trace (RunsAt at 0 (g.S.NodeStore.state c.open_root.new.store).nodes) (record {
      rows = (g.S.NodeStore.state c.open_root.new.store).nodes;
      entries = map entry_of c.push.new.self.items;
      failures = failures;
      memo = (g.S.NodeStore.state c.open_root.new.store).memo;
    }))
    entry
    (subst
    (λ (entries : List Entry). IsActive context trace (RunsAt first.0 0 (g.S.NodeStore.state c.open_root.new.store).nodes) (record {
      rows = (g.S.NodeStore.state c.open_root.new.store).nodes;
      entries = entries;
      failures = failures;
      memo = (g.S.NodeStore.state c.open_root.new.store).memo;
    }))
    (sym (entries_are g c))
    (subst
    (λ (store : StoreState). IsActive context trace (RunsAt first.0 0 store.nodes) (record {
      rows = store.nodes;
      entries = CallEntry pair 0 root ∷ [];
      failures = failures;
      memo = store.memo;
    }))
    (sym after) first.2)))

pub returns-clause-cuts : goal.returns-clause-cuts
returns-clause-cuts g c =
    let pair = starts_at c.args.input.start in
    let root = length (root_rows (is_shown_by c.args.input.program.now.shown) pair) in
    let Cut : Entry → Type 0 = λ entry. g.S.NodeStore.cuts c.open_root.new.store (nodes_below entry) in
    subst (All Cut) (sym (entries_are g c))
    (All-cons Cut (CallEntry pair 0 root) []
    (subst (g.S.NodeStore.cuts c.open_root.new.store) c.in_ok-rows.ensures.rows c.in_ok-rows.ensures.cut)
    (All-nil Cut))
