use Rattle.std.proofs.Common.{◌∷◌, ◌++◌, []}
use Rattle.peg_nodes.specs.Linked.{nodes_of}
use Rattle.peg_tree.specs.Rows.{row_of}
use Rattle.peg_memo_policy.proofs.LinkedLemmas.{kept-state, on-ok, on-ok-always, whole-cut}
use Rattle.peg_memo_policy.proofs.selective_store.SelectiveStoreNodeStore.push.Goals as goal

pub returns-clause-state : goal.returns-clause-state
returns-clause-state c =
    let old = c.args.self.now in
    on-ok c.push.result
    (kept-state old.nodes c.push.new.self c.push.ensures.links old.results old.allocation_failed
    (nodes_of old.nodes ++ row_of c.args.node ∷ []) old.linked)
    c.push.ensures.ok

pub returns-clause-end : goal.returns-clause-end
returns-clause-end c = on-ok-always c.push.result (whole-cut c.push.new.self)
