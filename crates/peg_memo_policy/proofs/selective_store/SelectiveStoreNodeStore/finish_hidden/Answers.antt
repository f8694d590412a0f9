use Rattle.std.proofs.Common.{List, drop, subst}
use Rattle.peg_memo.specs.MemoMap.{entries_in}
use Rattle.peg_memo.specs.StoredResult.{StoredMatch}
use Rattle.peg_memo.specs.StoreState.{memo_state, IsOfferedAt}
use Rattle.peg_nodes.specs.Linked.{nodes_of}
use Rattle.peg_tree.specs.Rows.{Row}
use Rattle.peg_memo_policy.specs.LinkedResults.{linked_pairs}
use Rattle.peg_memo_policy.proofs.LinkedLemmas.{offered-later}
use Rattle.peg_memo_policy.proofs.selective_store.SelectiveStoreNodeStore.finish_hidden.Goals as goal

pub returns-clause-memo : goal.returns-clause-memo
returns-clause-memo c =
    let old = c.args.self.now in
    let room = c.make_room_if_full.new.self in
    let new = c.close_hidden.new.self in
    offered-later (entries_in (linked_pairs old.nodes old.results)) (entries_in (linked_pairs room.nodes room.results))
    (entries_in (linked_pairs new.nodes new.results)) (c.args.rule, c.args.start)
    (StoredMatch c.args.end (drop c.args.at (nodes_of old.nodes)))
    c.close_hidden.result old.allocation_failed room.allocation_failed new.allocation_failed c.make_room_if_full.ensures.memo
    (subst
    (λ (rows : List Row). IsOfferedAt
    (memo_state (entries_in (linked_pairs room.nodes room.results)) 0 room.allocation_failed) (c.args.rule, c.args.start)
    (StoredMatch c.args.end (drop c.args.at rows)) c.close_hidden.result
    (memo_state (entries_in (linked_pairs new.nodes new.results)) 0 new.allocation_failed))
    c.make_room_if_full.ensures.nodes c.close_hidden.ensures.memo)
