use Rattle.std.proofs.Common.{◌≡◌, List, [], ◌∷◌, arith, length, map, refl, reverse, subst, sym}
use Rattle.serde_json.specs.Data.{Data}
use Rattle.serde_json.specs.Events.{SendsValue}
use Rattle.peg_tree.specs.Rows.{row_of}
use Rattle.peg_tree.specs.TreesOfRows.{trees_of}
use Rattle.peg_tree.specs.Sending.{IsOpenPast, objects_by}
use Rattle.peg_tree.proofs.JsonRows.{rule_below}
use Rattle.peg_tree.proofs.NestedEvents.{IsSent, all-sent, begin-sent, end-sent, named_object, none-sent, objects_by-named, top-below}
use Rattle.peg_tree.proofs.nested_tree.serialize_nested.Goals as goal

pub nodes-init : goal.nodes-init
nodes-init g c =
    let names = g.N.Names.names c.args.names.now in
    let rows = c.rows-rows.result.now in
    let out = g.S.Serializer.written c.args.out.now in
    let objects = objects_by (named_object names) (trees_of (map row_of rows)) in
    record {
      within = omega arith;
      sent = subst (λ l. IsSent names (named_object names) rows (length names) 0 l objects out out) (sym c.new-stack.ensures.items)
          (none-sent names (named_object names) rows (length names) (trees_of (map row_of rows)) out c.rows-rows.ensures.tree refl);
    }

pub end_node-requires : goal.end_node-requires
end_node-requires g c =
    let names = g.N.Names.names c.args.names.now in
    let rows = c.rows-rows.result.now in
    top-below names (named_object names) rows (length names) c.nodes.at c.nodes.stack.items c.pop_ended.new.stack.items c.in-Some.ended
    (objects_by (named_object names) (trees_of (map row_of rows))) (g.S.Serializer.written c.args.out.now) (g.S.Serializer.written c.nodes.out)
    c.in-Some.ensures.some c.nodes.invariant.sent

pub nodes-preserved-in-Continue-1 : goal.nodes-preserved-in-Continue-1
nodes-preserved-in-Continue-1 g c =
    let names = g.N.Names.names c.args.names.now in
    let rows = c.rows-rows.result.now in
    record {
      within = c.nodes.invariant.within;
      sent = end-sent names (named_object names) rows (length names) c.nodes.at c.nodes.stack.items c.pop_ended.new.stack.items c.in-Some.ended
          (objects_by (named_object names) (trees_of (map row_of rows))) (g.S.Serializer.written c.args.out.now) (g.S.Serializer.written c.nodes.out)
          (g.S.Serializer.written c.end_node.new.out) c.in-Some.ensures.some c.in-Some.ensures.ended c.in_ok-end_node-in-Some.ensures
          c.nodes.invariant.sent;
    }

pub nodes-preserved : goal.nodes-preserved
nodes-preserved g c =
    let names = g.N.Names.names c.args.names.now in
    let rows = c.rows-rows.result.now in
    let objects = objects_by (named_object names) (trees_of (map row_of rows)) in
    let start = g.S.Serializer.written c.args.out.now in
    let now = g.S.Serializer.written c.nodes.out in
    let stack = c.pop_ended.new.stack.items in
    let same : c.nodes.stack.items ≡ stack = sym c.in-None.ensures.same in
    let past = subst (λ l. IsOpenPast c.nodes.at (reverse l)) same c.in-None.ensures.past in
    let sent = subst (λ l. IsSent names (named_object names) rows (length names) c.nodes.at l objects start now) same c.nodes.invariant.sent in
    record {
      within = omega arith;
      sent = begin-sent names (named_object names) rows c.rows-rows.ensures.tree (length names) c.nodes.at stack c.begin_node.new.stack.items
          objects start now (g.S.Serializer.written c.begin_node.new.out) (omega arith) past c.in_ok-begin_node-in-None.ensures.open
          (λ node is. rule_below (length names) rows c.args.tree.now c.rows-rows.ensures.tree c.rows-rows.ensures.same c.requires
          c.nodes.at node (omega arith) is)
          (λ node is rule begin end children size. refl)
          c.in_ok-begin_node-in-None.ensures.sent sent;
    }

pub returns-in-None-2 : goal.returns-in-None-2
returns-in-None-2 g c =
    let names = g.N.Names.names c.args.names.now in
    let rows = c.rows-rows.result.now in
    let start = g.S.Serializer.written c.args.out.now in
    let now = g.S.Serializer.written c.nodes.out in
    let objects = objects_by (named_object names) in
    let whole : IsSent names (named_object names) rows (length names) c.nodes.at c.nodes.stack.items (objects c.args.tree.now) start now =
    subst (λ tree. IsSent names (named_object names) rows (length names) c.nodes.at c.nodes.stack.items (objects tree) start now)
    c.rows-rows.ensures.same c.nodes.invariant.sent in
    subst (λ (l : List Data). (root : Data) × (l ≡ root ∷ []) × SendsValue root start now) (objects_by-named names c.args.tree.now)
    (all-sent names (named_object names) rows (length names) c.nodes.at c.nodes.stack.items c.args.tree.now start now
    c.rows-rows.ensures.tree c.rows-rows.ensures.same (omega arith) c.in-None.ensures.past whole)
