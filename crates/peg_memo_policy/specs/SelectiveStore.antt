-- Describes code: the nodes and the memo of a selective store.
use Rattle.peg_memo.specs.MemoMap.{entries_in}
use Rattle.peg_memo.specs.StoreState.{memo_state, StoreState}
use Rattle.peg_nodes.specs.Linked.{nodes_of}
use Rattle.peg_memo_policy.specs.LinkedResults.{linked_pairs}
use Rattle.peg_memo_policy.specs.declared.selective_store.SelectiveStore as code

-- the nodes and the memo; the memo may evict an entry at any time
abbrev pub state_by : code.SelectiveStore → StoreState
state_by store = record {
  nodes = nodes_of store.nodes;
  memo = memo_state (entries_in (linked_pairs store.nodes store.results)) 0 store.allocation_failed;
}
