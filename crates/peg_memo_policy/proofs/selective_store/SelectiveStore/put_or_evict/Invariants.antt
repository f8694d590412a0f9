use Rattle.std.proofs.Common.{◌≡◌, IsTrue, length}
use Rattle.peg_memo.specs.MemoMap.{entries_in, IsPartOf}
use Rattle.peg_memo_policy.specs.LinkedResults.{linked_pairs}
use Rattle.peg_memo_policy.proofs.selective_store.SelectiveStore.put_or_evict.Given as goal

abbrev pub invariant-tries : goal.invariant-tries
invariant-tries l = record {
  nodes : l.self.nodes ≡ l.initial.self.nodes;
  part : IsPartOf (entries_in (linked_pairs l.initial.self.nodes l.self.results))
      (entries_in (linked_pairs l.initial.self.nodes l.initial.self.results));
  allocation_failed : IsTrue l.initial.self.allocation_failed → IsTrue l.self.allocation_failed;
}

abbrev pub decreases-tries : goal.decreases-tries
decreases-tries l = length l.self.results
