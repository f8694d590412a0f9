use Rattle.std.proofs.Common.{◌≡◌, ◌-◌, arith, ap, refl, sym, ◌∙◌, drop, length, map}
use Rattle.serde_json.specs.View.{view}
use Rattle.peg_tree.specs.Built.{objects_of, objects_of_trees}
use Rattle.peg_tree.specs.Json.{nested_data}
use Rattle.peg_tree.specs.Rows.{row_of}
use Rattle.peg_tree.specs.TreesOfRows.{trees_of}
use Rattle.peg_tree.proofs.Forests.{IsForest-from_one_tree, drop_forest, size_counts}
use Rattle.peg_tree.proofs.JsonNested.{objects_of-more, last_object}
use Rattle.peg_tree.proofs.JsonRows.{rule_below}
use Rattle.peg_tree.proofs.nested.nested.Goals as goal

pub overflow_sub-row : goal.overflow_sub-row
overflow_sub-row g c =
    let rows = c.rows-rows.result.now in
    let forest = drop_forest rows (c.loop-at.at - 1) (IsForest-from_one_tree (map row_of rows) c.rows-rows.ensures.tree) in
    let counts = size_counts rows (c.loop-at.at - 1) c.index-rows-at.result (omega arith) c.index-rows-at.is forest in
    omega (arith, counts.0)

pub node_json-requires : goal.node_json-requires
node_json-requires g c =
    rule_below (length (g.N.Names.names c.args.names.now)) c.rows-rows.result.now c.args.tree.now c.rows-rows.ensures.tree c.rows-rows.ensures.same c.requires
    (c.loop-at.at - 1) c.index-rows-at.result (omega arith) c.index-rows-at.is

pub loop-at-preserved : goal.loop-at-preserved
loop-at-preserved g c =
    let rows = c.rows-rows.result.now in
    let forest = drop_forest rows (c.loop-at.at - 1) (IsForest-from_one_tree (map row_of rows) c.rows-rows.ensures.tree) in
    record {
      within = omega arith;
      built = objects_of-more (g.N.Names.names c.args.names.now) rows (c.loop-at.at - 1) c.loop-at.at c.index-rows-at.result (omega arith) (omega arith) c.index-rows-at.is forest
          c.loop-at.stack.items c.take_children.new.stack.items c.push.new.self.items (map view c.in_ok-children.children.items)
          (record { value = c.in_ok-value.value; size = c.index-rows-at.result.size })
          c.loop-at.invariant.built c.in_ok-children.ensures.taken c.in_ok-children.ensures.left c.in_ok-value.ensures refl c.in_ok-push.ensures.items;
    }

pub returns : goal.returns
returns g c =
    let rows = c.rows-rows.result.now in
    let names = g.N.Names.names c.args.names.now in
    let start : c.loop-at.at ≡ 0 = omega arith in
    let whole : objects_of c.loop-at.stack.items ≡ objects_of_trees names (trees_of (map row_of rows)) =
    c.loop-at.invariant.built ∙ ap (λ n. objects_of_trees names (trees_of (map row_of (drop n rows)))) start in
    ap (nested_data names) (sym c.rows-rows.ensures.same)
    ∙ last_object names (map row_of rows) c.rows-rows.ensures.tree c.loop-at.stack.items c.pop.new.self.items c.in-Some.root whole c.in-Some.ensures.items
