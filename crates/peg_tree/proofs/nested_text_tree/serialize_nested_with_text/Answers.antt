use Rattle.std.proofs.Common.{ℕ, ◌∙◌, ◌≡◌, ◌+◌, List, [], ◌∷◌, ap, arith, get_or, length, map, refl, reverse, subst, sym}
use Rattle.serde_json.specs.Data.{Data}
use Rattle.serde_json.specs.Events.{SendsValue}
use Rattle.peg_tree.specs.Rows.{row_of}
use Rattle.peg_tree.specs.TreesOfRows.{trees_of}
use Rattle.peg_tree.specs.Sending.{IsOpenPast, objects_by}
use Rattle.peg_tree.proofs.JsonRows.{rule_below}
use Rattle.peg_tree.proofs.NestedEvents.{IsSent, all-sent, alone-sent, begin-sent, end-sent, none-sent, top-below}
use Rattle.peg_tree.proofs.TextLemmas.{objects_by-text, text_object, text_object-children}
use Rattle.serde.specs.Event.{Log}
use Rattle.std.specs.declared.alloc.Global.{Global}
use Rattle.std.specs.declared.vec.Vec.{Vec}
use Rattle.std.proofs.lemmas.List.{get_or_default}
use Rattle.peg_tree.specs.Trees.{Trees, nodes}
use Rattle.peg_tree.specs.declared.nested_tree.Open.{Open}
use Rattle.peg_tree.specs.declared.row.TreeNode.{TreeNode}
use Rattle.peg_tree.proofs.nested_text_tree.serialize_nested_with_text.Goals.{then-node-eq1+in_ok-serialize_leaf-in-None, else-node-eq1+in_ok-begin_node-in-None}
use Rattle.peg_tree.proofs.nested_text_tree.serialize_nested_with_text.Goals as goal

pub nodes-init : goal.nodes-init
nodes-init g c =
    let names = g.N.Names.names c.args.names.now in
    let text = c.args.text.now in
    let rows = c.rows-rows.result.now in
    let out = g.S.Serializer.written c.args.out.now in
    let objects = objects_by (text_object names text) (trees_of (map row_of rows)) in
    record {
      within = omega arith;
      sent = subst (λ l. IsSent names (text_object names text) rows (length names) 0 l objects out out) (sym c.new-stack.ensures.items)
          (none-sent names (text_object names text) rows (length names) (trees_of (map row_of rows)) out c.rows-rows.ensures.tree refl);
    }

pub end_node-requires : goal.end_node-requires
end_node-requires g c =
    let names = g.N.Names.names c.args.names.now in
    let text = c.args.text.now in
    let rows = c.rows-rows.result.now in
    top-below names (text_object names text) rows (length names) c.nodes.at c.nodes.stack.items c.pop_ended.new.stack.items c.in-Some.ended
    (objects_by (text_object names text) (trees_of (map row_of rows))) (g.S.Serializer.written c.args.out.now) (g.S.Serializer.written c.nodes.out)
    c.in-Some.ensures.some c.nodes.invariant.sent

pub nodes-preserved-in-Continue-1 : goal.nodes-preserved-in-Continue-1
nodes-preserved-in-Continue-1 g c =
    let names = g.N.Names.names c.args.names.now in
    let text = c.args.text.now in
    let rows = c.rows-rows.result.now in
    record {
      within = c.nodes.invariant.within;
      sent = end-sent names (text_object names text) rows (length names) c.nodes.at c.nodes.stack.items c.pop_ended.new.stack.items c.in-Some.ended
          (objects_by (text_object names text) (trees_of (map row_of rows))) (g.S.Serializer.written c.args.out.now) (g.S.Serializer.written c.nodes.out)
          (g.S.Serializer.written c.end_node.new.out) c.in-Some.ensures.some c.in-Some.ensures.ended c.in_ok-end_node-in-Some.ensures
          c.nodes.invariant.sent;
    }

pub serialize_leaf-requires : goal.serialize_leaf-requires
serialize_leaf-requires g c =
    rule_below (length (g.N.Names.names c.args.names.now)) c.rows-rows.result.now c.args.tree.now c.rows-rows.ensures.tree
    c.rows-rows.ensures.same c.requires c.nodes.at c.index-rows-at.result c.if-at-rows.true c.index-rows-at.is

pub nodes-preserved : goal.nodes-preserved
nodes-preserved g c =
    let names = g.N.Names.names c.args.names.now in
    let text = c.args.text.now in
    let rows = c.rows-rows.result.now in
    let tree = trees_of (map row_of rows) in
    let objects = objects_by (text_object names text) tree in
    let start = g.S.Serializer.written c.args.out.now in
    let now = g.S.Serializer.written c.nodes.out in
    let stack = c.pop_ended.new.stack.items in
    let node = c.index-rows-at.result in
    let same : c.nodes.stack.items ≡ stack = sym c.in-None.ensures.same in
    let past = subst (λ l. IsOpenPast c.nodes.at (reverse l)) same c.in-None.ensures.past in
    let sent = subst (λ l. IsSent names (text_object names text) rows (length names) c.nodes.at l objects start now) same
    c.nodes.invariant.sent in
    let below = λ (other : TreeNode) (is : other ≡ get_or rows c.nodes.at other).
    rule_below (length names) rows c.args.tree.now c.rows-rows.ensures.tree c.rows-rows.ensures.same c.requires
    c.nodes.at other c.if-at-rows.true is in
    let IsNext = λ (l : List Open) (log : Log).
    IsSent names (text_object names text) rows (length names) (c.nodes.at + 1) l objects start log in
    record {
      within = omega arith;
      sent = elim c.if-node-eq1.branch [
        | then-node-eq1+in_ok-serialize_leaf-in-None w ↦
            let stacked : c.if-node-eq1.stack.items ≡ stack = ap (λ (v : Vec Open Global). v.items) w.stack-is in
            let logged = ap g.S.Serializer.written w.out-is in
            let after = g.S.Serializer.written w.serialize_leaf.new.out in
            subst (λ l. IsNext l (g.S.Serializer.written c.if-node-eq1.out)) (sym stacked)
            (subst (λ log. IsNext stack log) (sym logged)
            (alone-sent names (text_object names text) rows (length names) c.nodes.at stack objects start now after node
            c.if-at-rows.true c.index-rows-at.is w.if-node-eq1.true past w.in_ok-serialize_leaf-in-None.ensures sent))
        | else-node-eq1+in_ok-begin_node-in-None w ↦
            let more = w.begin_node.new.stack.items in
            let stacked : c.if-node-eq1.stack.items ≡ more = ap (λ (v : Vec Open Global). v.items) w.stack-is in
            let logged = ap g.S.Serializer.written w.out-is in
            let after = g.S.Serializer.written w.begin_node.new.out in
            let full = λ (other : TreeNode) (is : other ≡ get_or rows c.nodes.at other) (rule begin end : ℕ) (children : Trees)
            (size : other.size ≡ 1 + nodes children).
            let alike : other ≡ node =
            is ∙ get_or_default rows c.nodes.at other node c.if-at-rows.true ∙ sym c.index-rows-at.is in
            let sizes : other.size ≡ node.size = ap (λ (n : TreeNode). n.size) alike in
            text_object-children names text rule begin end children (omega (arith, w.if-node-eq1.false)) in
            subst (λ l. IsNext l (g.S.Serializer.written c.if-node-eq1.out)) (sym stacked)
            (subst (λ log. IsNext more log) (sym logged)
            (begin-sent names (text_object names text) rows c.rows-rows.ensures.tree (length names) c.nodes.at stack more
            objects start now after c.if-at-rows.true past w.in_ok-begin_node-in-None.ensures.open below full
            w.in_ok-begin_node-in-None.ensures.sent sent))
      ];
    }

pub returns-in-None-2 : goal.returns-in-None-2
returns-in-None-2 g c =
    let names = g.N.Names.names c.args.names.now in
    let text = c.args.text.now in
    let rows = c.rows-rows.result.now in
    let start = g.S.Serializer.written c.args.out.now in
    let now = g.S.Serializer.written c.nodes.out in
    let objects = objects_by (text_object names text) in
    let whole : IsSent names (text_object names text) rows (length names) c.nodes.at c.nodes.stack.items (objects c.args.tree.now) start now =
    subst (λ tree. IsSent names (text_object names text) rows (length names) c.nodes.at c.nodes.stack.items (objects tree) start now)
    c.rows-rows.ensures.same c.nodes.invariant.sent in
    subst (λ (l : List Data). (root : Data) × (l ≡ root ∷ []) × SendsValue root start now) (objects_by-text names text c.args.tree.now)
    (all-sent names (text_object names text) rows (length names) c.nodes.at c.nodes.stack.items c.args.tree.now start now
    c.rows-rows.ensures.tree c.rows-rows.ensures.same (omega arith) c.in-None.ensures.past whole)
