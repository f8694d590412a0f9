use Rattle.std.proofs.Common.{map, List, sym, ◌∙◌, ap}
use Rattle.std.proofs.lemmas.List.{take-map}
use Rattle.peg_memo.specs.StoreState.{memo_state, StoreState}
use Rattle.peg_tree.specs.Rows.{Row, row_of}
use Rattle.peg_memo.proofs.copied_nodes.CopiedNodesNodeStore.truncate.Goals as goal

pub returns-clause-state : goal.returns-clause-state
returns-clause-state g c =
    let old = c.args.self.now in
    let state_with : List Row → StoreState = λ nodes. record {
      nodes = nodes;
      memo = memo_state (g.K.Keep.entries old.memo.now) (g.K.Keep.capacity old.memo.now) (g.K.Keep.allocation_failed old.memo.now);
    } in
    ap state_with (ap (map row_of) c.truncate.ensures.items ∙ sym (take-map row_of c.args.count old.nodes.items))
