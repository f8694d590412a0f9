use Rattle.std.proofs.Common.{◌≡◌, List, drop, map, sym, subst, ◌∙◌, ap}
use Rattle.std.proofs.lemmas.List.{drop-map}
use Rattle.peg_tree.specs.declared.row.TreeNode.{TreeNode}
use Rattle.peg_tree.specs.Rows.{Row, row_of}
use Rattle.peg_memo.specs.StoredResult.{StoredMatch}
use Rattle.peg_memo.specs.StoreState.{memo_state, IsOfferedAt}
use Rattle.peg_memo.proofs.copied_nodes.CopiedNodesNodeStore.finish_hidden.Goals as goal

pub returns-clause-memo : goal.returns-clause-memo
returns-clause-memo g c =
    let old = c.args.self.now in
    let at = c.args.at in
    let before = memo_state (g.K.Keep.entries old.memo.now) (g.K.Keep.capacity old.memo.now) (g.K.Keep.allocation_failed old.memo.now) in
    let after = memo_state (g.K.Keep.entries c.keep.new.self) (g.K.Keep.capacity c.keep.new.self) (g.K.Keep.allocation_failed c.keep.new.self) in
    let nodes_are : map row_of c.nodes_from-within.result.now ≡ drop at (map row_of old.nodes.items) =
    ap (map row_of) c.nodes_from-within.ensures
    ∙ ap (λ (all : List TreeNode). map row_of (drop at all)) c.deref.ensures.value
    ∙ sym (drop-map row_of at old.nodes.items) in
    subst
    (λ (nodes : List Row). IsOfferedAt before (c.args.rule, c.args.start) (StoredMatch c.args.end nodes) c.keep.result after)
    nodes_are
    (record {
      part = c.keep.ensures.part;
      all = c.keep.ensures.all;
      capacity = c.keep.ensures.capacity;
      allocation_failed = c.keep.ensures.allocation_failed;
    })
