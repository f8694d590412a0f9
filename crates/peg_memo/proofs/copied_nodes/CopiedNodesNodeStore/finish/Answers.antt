use Rattle.std.proofs.Common.{◌≡◌, ◌-◌, ℕ, List, drop, length, map, set, sym, subst, ◌∙◌, ap}
use Rattle.std.proofs.lemmas.List.{drop-map, length-map, map-set}
use Rattle.peg_tree.specs.declared.row.TreeNode.{TreeNode}
use Rattle.peg_tree.specs.Rows.{Row, row_of}
use Rattle.peg_memo.specs.StoredResult.{StoredMatch}
use Rattle.peg_memo.specs.StoreState.{closed_at, memo_state, IsOfferedAt}
use Rattle.peg_memo.proofs.copied_nodes.CopiedNodesNodeStore.finish.Given.{Over}
use Rattle.peg_memo.proofs.copied_nodes.CopiedNodesNodeStore.finish.Goals as goal
use Rattle.peg_memo.proofs.copied_nodes.CopiedNodesNodeStore.finish.Goals.{After-keep}

abbrev row_from : (rule start end size : ℕ) → Row
row_from rule start end size = record { rule = rule; start = start; end = end; size = size }

-- the list with the node closed
closed : (g : Over) (c : After-keep g)
    → map row_of (set c.args.self.now.nodes.items c.args.at
    (record { rule = c.args.rule; span = c.new.result; size = c.len.result - c.args.at }))
    ≡ closed_at c.args.at (map row_of c.args.self.now.nodes.items) c.args.rule c.args.start c.args.end
closed g c =
    let old = c.args.self.now.nodes in
    let at = c.args.at in
    let rule = c.args.rule in
    let nodes = map row_of old.items in
    let size = c.len.result - at in
    let length_is : c.len.result ≡ length nodes = c.len.ensures ∙ old.ok.0 ∙ sym (length-map old.items row_of) in
    map-set row_of old.items at (record { rule = rule; span = c.new.result; size = size })
    ∙ ap (λ (n : ℕ). set nodes at (row_from rule n c.new.result.end size)) c.new.ensures.start
    ∙ ap (λ (n : ℕ). set nodes at (row_from rule c.args.start n size)) c.new.ensures.end
    ∙ ap (λ (n : ℕ). set nodes at (row_from rule c.args.start c.args.end (n - at))) length_is

pub returns-clause-nodes : goal.returns-clause-nodes
returns-clause-nodes g c = closed g c

pub returns-clause-memo : goal.returns-clause-memo
returns-clause-memo g c =
    let old = c.args.self.now in
    let at = c.args.at in
    let before = memo_state (g.K.Keep.entries old.memo.now) (g.K.Keep.capacity old.memo.now) (g.K.Keep.allocation_failed old.memo.now) in
    let after = memo_state (g.K.Keep.entries c.keep.new.self) (g.K.Keep.capacity c.keep.new.self) (g.K.Keep.allocation_failed c.keep.new.self) in
    let nodes_are : map row_of c.nodes_from-nodes.result.now
    ≡ drop at (closed_at at (map row_of old.nodes.items) c.args.rule c.args.start c.args.end) =
    ap (map row_of) c.nodes_from-nodes.ensures
    ∙ ap (λ (all : List TreeNode). map row_of (drop at all)) c.deref.ensures.value
    ∙ sym (drop-map row_of at (set old.nodes.items at (record { rule = c.args.rule; span = c.new.result; size = c.len.result - at })))
    ∙ ap (drop at) (closed g c) in
    subst
    (λ (nodes : List Row). IsOfferedAt before (c.args.rule, c.args.start) (StoredMatch c.args.end nodes) c.keep.result after)
    nodes_are
    (record {
      part = c.keep.ensures.part;
      all = c.keep.ensures.all;
      capacity = c.keep.ensures.capacity;
      allocation_failed = c.keep.ensures.allocation_failed;
    })
