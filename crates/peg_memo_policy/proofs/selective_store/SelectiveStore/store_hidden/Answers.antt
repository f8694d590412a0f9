use Rattle.std.proofs.Common.{◌≡◌, ◌≤◌, List, [], drop, length, sym, ◌∙◌, subst, arith}
use Rattle.std.proofs.lemmas.List.{drop_all}
use Rattle.peg_memo.specs.MemoMap.{entries_in}
use Rattle.peg_memo.specs.StoredResult.{StoredMatch}
use Rattle.peg_memo.specs.StoreState.{memo_state, IsOfferedAt}
use Rattle.peg_nodes.specs.Linked.{nodes_of}
use Rattle.peg_tree.specs.Rows.{Row}
use Rattle.peg_memo_policy.specs.LinkedResults.{linked_pairs}
use Rattle.peg_memo_policy.proofs.LinkedLemmas.{offered-none}
use Rattle.peg_memo_policy.proofs.selective_store.SelectiveStore.store_hidden.Goals as goal

-- no nodes are after all nodes
pub returns-then-at-len-clause-memo : goal.returns-then-at-len-clause-memo
returns-then-at-len-clause-memo c =
    let old = c.args.self.now in
    let new = c.store.new.self in
    let least : length (nodes_of old.nodes) ≤ c.args.at = omega (arith, c.len.ensures.count, c.if-at-len.true) in
    let none : drop c.args.at (nodes_of old.nodes) ≡ [] = drop_all c.args.at (nodes_of old.nodes) least in
    subst
    (λ (rows : List Row). IsOfferedAt
    (memo_state (entries_in (linked_pairs old.nodes old.results)) 0 old.allocation_failed) (c.args.rule, c.args.start)
    (StoredMatch c.args.end rows) c.store.result
    (memo_state (entries_in (linked_pairs new.nodes new.results)) 0 new.allocation_failed))
    (c.empty_link-link.ensures.empty ∙ sym none) c.store.ensures.memo

pub returns-in-None-clause-memo : goal.returns-in-None-clause-memo
returns-in-None-clause-memo c =
    let old = c.args.self.now in
    offered-none (entries_in (linked_pairs old.nodes old.results)) (c.args.rule, c.args.start)
    (StoredMatch c.args.end (drop c.args.at (nodes_of old.nodes))) old.allocation_failed
