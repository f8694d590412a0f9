use Rattle.std.proofs.Common.{take}
use Rattle.peg_nodes.specs.Linked.{nodes_of}
use Rattle.peg_memo_policy.proofs.LinkedLemmas.{kept-state}
use Rattle.peg_memo_policy.proofs.selective_store.SelectiveStoreNodeStore.truncate.Goals as goal

pub returns-clause-state : goal.returns-clause-state
returns-clause-state c =
    let old = c.args.self.now in
    kept-state old.nodes c.truncate.new.self c.truncate.ensures.links old.results old.allocation_failed
    (take c.args.count (nodes_of old.nodes)) old.linked c.truncate.ensures.nodes
