use Rattle.std.proofs.Common.{◌≡◌, arith, ap, ◌∙◌, length, map}
use Rattle.serde_json.specs.Data.{array}
use Rattle.serde_json.specs.View.{view, items_of}
use Rattle.serde_json.proofs.Views.{view-Array}
use Rattle.peg_tree.specs.Json.{rows_data}
use Rattle.peg_tree.specs.Rows.{row_of}
use Rattle.peg_tree.specs.TreesOfRows.{trees_of}
use Rattle.peg_tree.proofs.NodeRows.{nodes_of_tree}
use Rattle.peg_tree.proofs.JsonRows.{rows_with_levels, rows_with_levels-all, rows_with_levels-more, map-view-push, length-levels_of, rule_below}
use Rattle.peg_tree.proofs.json.rows_json.Goals as goal

pub index-requires : goal.index-requires
index-requires g c =
    let rows = c.rows-rows.result.now in
    omega (arith, nodes_of_tree rows c.rows-rows.ensures.tree, length-levels_of 1 (trees_of (map row_of rows)), ap length c.in_ok-levels.ensures, c.in_ok-levels.levels.ok.0)

pub row_json-requires : goal.row_json-requires
row_json-requires g c =
    rule_below (length (g.N.Names.names c.args.names.now)) c.rows-rows.result.now c.args.tree.now c.rows-rows.ensures.tree c.rows-rows.ensures.same c.requires
    c.loop-at.at c.index-rows-at.result c.loop-at-test.true c.index-rows-at.is

pub loop-at-preserved : goal.loop-at-preserved
loop-at-preserved g c =
    let rows = c.rows-rows.result.now in
    let names = g.N.Names.names c.args.names.now in
    let levels = c.in_ok-levels.levels.items in
    rows_with_levels-more names levels rows c.loop-at.at c.index.result.now c.index-rows-at.result
    (omega (arith, nodes_of_tree rows c.rows-rows.ensures.tree, length-levels_of 1 (trees_of (map row_of rows)), ap length c.in_ok-levels.ensures))
    c.loop-at-test.true c.index.ensures c.index-rows-at.is
    (map view c.loop-at.list.items) (map view c.push.new.self.items) (rows_with_levels names levels (map row_of rows)) (view c.in_ok-row_json.field-0)
    c.in_ok-row_json.ensures
    (map-view-push c.loop-at.list.items c.push.new.self.items c.in_ok-row_json.field-0 c.in_ok-push.ensures.items)
    c.loop-at.invariant

pub returns : goal.returns
returns g c =
    let rows = c.rows-rows.result.now in
    let names = g.N.Names.names c.args.names.now in
    let levels = c.in_ok-levels.levels.items in
    let count = length-levels_of 1 (trees_of (map row_of rows)) in
    let all = nodes_of_tree rows c.rows-rows.ensures.tree in
    let made : map view c.loop-at.list.items ≡ rows_data names 1 c.args.tree.now =
    rows_with_levels-all names levels rows c.args.tree.now c.loop-at.at (map view c.loop-at.list.items) c.rows-rows.ensures.tree c.rows-rows.ensures.same c.in_ok-levels.ensures
    (omega (arith, ap length c.in_ok-levels.ensures)) c.loop-at.invariant in
    view-Array c.loop-at.list ∙ ap (λ l. array (items_of l)) made
