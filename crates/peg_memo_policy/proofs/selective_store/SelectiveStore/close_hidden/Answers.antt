use Rattle.std.proofs.Common.{◌≡◌, drop, false, sym, ◌∙◌, ap, subst}
use Rattle.peg_memo.specs.MemoKey.{MemoKey}
use Rattle.peg_memo.specs.MemoMap.{entries_in}
use Rattle.peg_memo.specs.StoredResult.{StoredMatch}
use Rattle.peg_memo.specs.StoreState.{memo_state, IsOfferedAt, MemoState}
use Rattle.peg_nodes.specs.Linked.{nodes_of, IsCut, Linked}
use Rattle.peg_nodes.specs.OpenNodes.{AreClosed}
use Rattle.peg_memo_policy.specs.LinkedResults.{linked_pairs}
use Rattle.peg_memo_policy.proofs.LinkedLemmas.{offered-none, Entries}
use Rattle.peg_memo_policy.proofs.selective_store.SelectiveStore.close_hidden.Goals as goal
use Rattle.peg_memo_policy.proofs.selective_store.SelectiveStore.close_hidden.Goals.{After-is_wanted}

pub store_hidden-requires : goal.store_hidden-requires
store_hidden-requires c =
    record {
      are_closed = subst (λ (nodes : Linked). AreClosed (drop c.args.at (nodes_of nodes))) (sym c.is_wanted.ensures.nodes)
          c.requires.are_closed;
    }

-- the memo is as before
same_memo : (c : After-is_wanted)
    → memo_state (entries_in (linked_pairs c.is_wanted.new.self.nodes c.is_wanted.new.self.results)) 0 c.is_wanted.new.self.allocation_failed
    ≡ memo_state (entries_in (linked_pairs c.args.self.now.nodes c.args.self.now.results)) 0 c.args.self.now.allocation_failed
same_memo c =
    let old = c.args.self.now in
    let new = c.is_wanted.new.self in
    ap (λ (failed : _). memo_state (entries_in (linked_pairs new.nodes new.results)) 0 failed) c.is_wanted.ensures.allocation_failed
    ∙ ap (λ (entries : Entries). memo_state (entries_in (linked_pairs new.nodes entries)) 0 old.allocation_failed) c.is_wanted.ensures.results
    ∙ ap (λ (nodes : Linked). memo_state (entries_in (linked_pairs nodes old.results)) 0 old.allocation_failed) c.is_wanted.ensures.nodes

pub returns-then-is_wanted-clause-nodes : goal.returns-then-is_wanted-clause-nodes
returns-then-is_wanted-clause-nodes c = c.store_hidden.ensures.nodes ∙ ap nodes_of c.is_wanted.ensures.nodes

pub returns-then-is_wanted-clause-memo : goal.returns-then-is_wanted-clause-memo
returns-then-is_wanted-clause-memo c =
    let here = (goal.at.returns-then-is_wanted-clause-memo c).After-is_wanted in
    let new = c.store_hidden.new.self in
    let asked : MemoKey = (c.args.rule, c.args.start) in
    let after = memo_state (entries_in (linked_pairs new.nodes new.results)) 0 new.allocation_failed in
    let wanted = c.is_wanted.new.self in
    subst
    (λ (before : MemoState). IsOfferedAt before asked
    (StoredMatch c.args.end (drop c.args.at (nodes_of c.args.self.now.nodes))) c.store_hidden.result after)
    (same_memo here)
    (subst
    (λ (nodes : Linked). IsOfferedAt
    (memo_state (entries_in (linked_pairs wanted.nodes wanted.results)) 0 wanted.allocation_failed) asked
    (StoredMatch c.args.end (drop c.args.at (nodes_of nodes))) c.store_hidden.result after)
    c.is_wanted.ensures.nodes c.store_hidden.ensures.memo)

pub returns-then-is_wanted-clause-cuts : goal.returns-then-is_wanted-clause-cuts
returns-then-is_wanted-clause-cuts c = λ count most cut.
    c.store_hidden.ensures.cuts count most (subst (λ (nodes : Linked). IsCut nodes count) (sym c.is_wanted.ensures.nodes) cut)

pub returns-clause-nodes : goal.returns-clause-nodes
returns-clause-nodes c = ap nodes_of c.is_wanted.ensures.nodes

pub returns-clause-memo : goal.returns-clause-memo
returns-clause-memo c =
    let here = (goal.at.returns-clause-memo c).After-is_wanted in
    let old = c.args.self.now in
    let entries = entries_in (linked_pairs old.nodes old.results) in
    let result = StoredMatch c.args.end (drop c.args.at (nodes_of old.nodes)) in
    subst
    (λ (after : MemoState). IsOfferedAt (memo_state entries 0 old.allocation_failed) (c.args.rule, c.args.start) result false after)
    (sym (same_memo here)) (offered-none entries (c.args.rule, c.args.start) result old.allocation_failed)

pub returns-clause-cuts : goal.returns-clause-cuts
returns-clause-cuts c = λ count most cut. subst (λ (nodes : Linked). IsCut nodes count) (sym c.is_wanted.ensures.nodes) cut
