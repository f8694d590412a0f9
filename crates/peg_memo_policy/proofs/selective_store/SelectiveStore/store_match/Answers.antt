use Rattle.std.proofs.Common.{List, drop, ap, subst}
use Rattle.peg_memo.specs.MemoKey.{MemoKey}
use Rattle.peg_memo.specs.MemoMap.{entries_in}
use Rattle.peg_memo.specs.StoredResult.{StoredMatch, StoredResult}
use Rattle.peg_memo.specs.StoreState.{memo_state, IsOfferedAt, MemoState}
use Rattle.peg_nodes.specs.Linked.{nodes_of}
use Rattle.peg_tree.specs.Rows.{Row}
use Rattle.peg_memo_policy.specs.LinkedResults.{linked_pairs}
use Rattle.peg_memo_policy.proofs.LinkedLemmas.{kept-pairs}
use Rattle.peg_memo_policy.proofs.selective_store.SelectiveStore.store_match.Goals as goal

pub returns-in-Ok-clause-memo : goal.returns-in-Ok-clause-memo
returns-in-Ok-clause-memo c =
    let old = c.args.self.now in
    let new = c.store.new.self in
    let asked : MemoKey = (c.args.rule, c.args.start) in
    let moved = memo_state (entries_in (linked_pairs c.store_from.new.self old.results)) 0 old.allocation_failed in
    let after = memo_state (entries_in (linked_pairs new.nodes new.results)) 0 new.allocation_failed in
    subst
    (λ (before : MemoState). IsOfferedAt before asked (StoredMatch c.args.end (drop c.args.at (nodes_of old.nodes))) c.store.result after)
    (ap (λ (pairs : List (MemoKey × StoredResult)). memo_state (entries_in pairs) 0 old.allocation_failed)
    (kept-pairs old.nodes c.store_from.new.self c.store_from.ensures.links old.results old.linked))
    (subst (λ (stored : StoredResult). IsOfferedAt moved asked stored c.store.result after)
    (ap (λ (rows : List Row). StoredMatch c.args.end rows) c.in-Ok.ensures.ok.1) c.store.ensures.memo)
