use Rattle.std.proofs.Common.{◌≡◌, ◌∷◌, ◌++◌, [], All, List, ◌⊎◌, inl, inr, option_map, map, sym, ◌∙◌, ap, subst, append-nil}
use Rattle.peg_machine.specs.Entries.{Entry, nodes_below, CountsAscend}
use Rattle.peg_machine.specs.Machine.{entry_of, state_of}
use Rattle.peg_machine.specs.MachineStates.{BeginWithACall, HasFailed, IsAt, IsActive}
use Rattle.peg_memo.specs.StoreState.{StoreState}
use Rattle.peg_runs.specs.PartialRuns.{RunsAt, Backtracks}
use Rattle.peg_machine.specs.declared.entry.Entry as code
use Rattle.peg_machine.specs.declared.entry.Entry.TheVariants.{Frame, ChoicePoint}
use Rattle.peg_machine.proofs.CutLemmas.{All-front, All-last, cuts-same, cuts-up_to}
use Rattle.peg_machine.proofs.EntryLemmas.{CountsAscend-pop}
use Rattle.peg_machine.proofs.MachineLemmas.{no_entry_left, popped_entries, pushed_entry}
use Rattle.peg_machine.proofs.StateEnds.{falls_back, falls_through}
use Rattle.peg_machine.proofs.machine.Machine.fail.Goals as goal

pub truncate-requires : goal.truncate-requires
truncate-requires g c =
    let now = c.falls.self in
    let left = c.pop.new.self.items in
    let last = ChoicePoint c.in-ChoicePoint.pc c.in-ChoicePoint.position c.in-ChoicePoint.rows in
    let are : now.stack.items ≡ left ++ last ∷ [] =
    c.in-Some.ensures.items ∙ ap (λ (entry : code.Entry). left ++ entry ∷ []) c.in-ChoicePoint.is in
    let Cut : Entry → Type 0 = λ entry. g.S.NodeStore.cuts c.falls.store (nodes_below entry) in
    All-last Cut (map entry_of left) (entry_of last)
    (subst (All Cut) (pushed_entry left now.stack.items last are) c.falls.invariant.1)

pub returns-in-ChoicePoint-clause-post : goal.returns-in-ChoicePoint-clause-post
returns-in-ChoicePoint-clause-post g c = λ context trace fails.
    let now = c.falls.self in
    let store = g.S.NodeStore.state c.falls.store in
    let after = g.S.NodeStore.state c.truncate.new.self in
    let left = c.pop.new.self.items in
    let last = ChoicePoint c.in-ChoicePoint.pc c.in-ChoicePoint.position c.in-ChoicePoint.rows in
    let are : now.stack.items ≡ left ++ last ∷ [] =
    c.in-Some.ensures.items ∙ ap (λ (entry : code.Entry). left ++ entry ∷ []) c.in-ChoicePoint.is in
    elim (c.falls.invariant.0 context trace fails) as
    (λ _. IsAt context trace c.in-ChoicePoint.pc c.in-ChoicePoint.position
    (record (state_of now after) { entries = map entry_of left })) [
      | inl falling ↦ inl (subst
          (λ (store : StoreState). IsActive context trace
          (RunsAt c.in-ChoicePoint.pc c.in-ChoicePoint.position store.nodes)
          (record (state_of now store) { entries = map entry_of left }))
          (sym c.truncate.ensures.state)
          (falls_back context trace (state_of now store) falling (map entry_of left) c.in-ChoicePoint.pc c.in-ChoicePoint.position
          c.in-ChoicePoint.rows (pushed_entry left now.stack.items last are)))
      | inr none ↦ absurd (no_entry_left now.stack.items left last are none.0)
    ]

pub returns-in-ChoicePoint-clause-cuts : goal.returns-in-ChoicePoint-clause-cuts
returns-in-ChoicePoint-clause-cuts g c =
    let now = c.falls.self in
    let store = g.S.NodeStore.state c.falls.store in
    let left = c.pop.new.self.items in
    let count = c.in-ChoicePoint.rows in
    let last = ChoicePoint c.in-ChoicePoint.pc c.in-ChoicePoint.position count in
    let are : now.stack.items ≡ left ++ last ∷ [] =
    c.in-Some.ensures.items ∙ ap (λ (entry : code.Entry). left ++ entry ∷ []) c.in-ChoicePoint.is in
    let Cut : Entry → Type 0 = λ entry. g.S.NodeStore.cuts c.falls.store (nodes_below entry) in
    let falls = c.requires.falls in
    elim (c.falls.invariant.0 falls.0 falls.1 falls.2) as
    (λ _. All (λ (entry : Entry). g.S.NodeStore.cuts c.truncate.new.self (nodes_below entry)) (map entry_of left)) [
      | inl falling ↦ cuts-up_to (g.S.NodeStore.cuts c.falls.store) (g.S.NodeStore.cuts c.truncate.new.self) count
          c.truncate.ensures.cuts (map entry_of left)
          (CountsAscend-pop 0 _ (map entry_of left) (entry_of last)
          (subst (CountsAscend 0 _) (pushed_entry left now.stack.items last are) falling.ascends)).0
          (All-front Cut (map entry_of left) (entry_of last ∷ [])
          (subst (All Cut) (pushed_entry left now.stack.items last are) c.falls.invariant.1))
      | inr none ↦ absurd (no_entry_left now.stack.items left last are none.0)
    ]

pub falls-preserved : goal.falls-preserved
falls-preserved g c =
    let now = c.falls.self in
    let store = g.S.NodeStore.state c.falls.store in
    let after = g.S.NodeStore.state c.fail-kept.new.self in
    let left = c.pop.new.self.items in
    let rule = c.in-Frame.rule in
    let start = c.in-Frame.start in
    let return_pc = c.in-Frame.return_pc in
    let count = c.in-Frame.rows in
    let last = Frame rule start return_pc count in
    let are : now.stack.items ≡ left ++ last ∷ [] =
    c.in-Some.ensures.items ∙ ap (λ (entry : code.Entry). left ++ entry ∷ []) c.in-Frame.is in
    let pushed = pushed_entry left now.stack.items last are in
    let Cut : Entry → Type 0 = λ entry. g.S.NodeStore.cuts c.falls.store (nodes_below entry) in
    let same : store.nodes ≡ after.nodes = sym c.fail-kept.ensures.nodes in (
      (λ context trace fails.
          elim (c.falls.invariant.0 context trace fails) as
          (λ _. IsActive context trace Backtracks (record (state_of now after) { entries = map entry_of left })
          ⊎ ((map entry_of left ≡ []) × HasFailed context trace (record (state_of now after) { entries = map entry_of left }))) [
            | inl falling ↦ subst
                (λ rows. IsActive context trace Backtracks (record (state_of now after) { rows = rows; entries = map entry_of left })
                ⊎ ((map entry_of left ≡ [])
                × HasFailed context trace (record (state_of now after) { rows = rows; entries = map entry_of left })))
                same
                (falls_through context trace (state_of now store) falling (map entry_of left)
                (record { rule = rule; position = start }) return_pc count c.fail-kept.result after.memo pushed
                c.fail-kept.ensures.memo)
            | inr none ↦ absurd (no_entry_left now.stack.items left last are none.0)
          ]),
      cuts-same (g.S.NodeStore.cuts c.falls.store) (g.S.NodeStore.cuts c.fail-kept.new.self) c.fail-kept.ensures.cuts
          (map entry_of left) (All-front Cut (map entry_of left) (entry_of last ∷ []) (subst (All Cut) pushed c.falls.invariant.1)),
      c.fail-kept.ensures.lender ∙ c.falls.invariant.2,
    )

pub returns-clause-post : goal.returns-clause-post
returns-clause-post g c = λ context trace fails.
    let now = c.falls.self in
    let store = g.S.NodeStore.state c.falls.store in
    let left = c.pop.new.self.items in
    let are : map entry_of now.stack.items ≡ map entry_of left =
    ap (map entry_of) (c.in_default.ensures.items ∙ append-nil left) in
    let popped = popped_entries now.stack.items left now.stack.len c.pop.result c.pop.ensures.items now.stack.ok.0
    c.pop.ensures.variant in
    let none : map entry_of now.stack.items ≡ [] = popped.none (ap (option_map entry_of) c.in_default.is) in
    elim (c.falls.invariant.0 context trace fails) as
    (λ _. HasFailed context trace (record (state_of now store) { entries = map entry_of left })) [
      | inl falling ↦ absurd (subst BeginWithACall none falling.begin)
      | inr failed ↦ subst
          (λ (entries : List Entry). HasFailed context trace (record (state_of now store) { entries = entries })) are failed.1
    ]

pub returns-clause-cuts : goal.returns-clause-cuts
returns-clause-cuts g c =
    let now = c.falls.self in
    let left = c.pop.new.self.items in
    subst (All (λ (entry : Entry). g.S.NodeStore.cuts c.falls.store (nodes_below entry)))
    (ap (map entry_of) (c.in_default.ensures.items ∙ append-nil left)) c.falls.invariant.1
