use Rattle.std.proofs.Common.{◌≡◌, [], arith, length, map, drop, reverse, subst, sym, ap, ◌∙◌, Some}
use Rattle.std.proofs.lemmas.List.{drop_all, length-map}
use Rattle.std.proofs.lemmas.Result.{on_ok_weaker}
use Rattle.serde.specs.Event.{Logs, seq_begins}
use Rattle.serde_json.specs.Events.{SendsItems}
use Rattle.serde_json.specs.View.{items_of}
use Rattle.peg_tree.specs.TextJson.{rows_text_data}
use Rattle.peg_tree.specs.TextSending.{text_row}
use Rattle.peg_tree.specs.Rows.{row_of}
use Rattle.peg_tree.proofs.Forests.{IsForest-from_one_tree, drop_forest, tree_within}
use Rattle.peg_tree.proofs.JsonRows.{rule_below}
use Rattle.peg_tree.proofs.RowEvents.{row-sent, rows_below, rows_below-all, length-rows_below}
use Rattle.peg_tree.proofs.Sent.{items_len-items_of}
use Rattle.peg_tree.proofs.TextRows.{items_of_trees-text}
use Rattle.peg_tree.proofs.flat_text_tree.serialize_rows_with_text.Goals as goal

pub serialize_text_row-requires : goal.serialize_text_row-requires
serialize_text_row-requires g c =
    rule_below (length (g.N.Names.names c.args.names.now)) c.rows-rows.result.now c.args.tree.now c.rows-rows.ensures.tree
    c.rows-rows.ensures.same c.requires c.loop-at.at c.index-rows-at.result c.loop-at-test.true c.index-rows-at.is

pub overflow_add-at : goal.overflow_add-at
overflow_add-at g c =
    let rows = c.rows-rows.result.now in
    let forest = drop_forest rows c.loop-at.at (IsForest-from_one_tree (map row_of rows) c.rows-rows.ensures.tree) in
    omega (arith, tree_within rows c.loop-at.at c.index-rows-at.result c.loop-at-test.true c.index-rows-at.is forest)

pub loop-at-preserved : goal.loop-at-preserved
loop-at-preserved g c last rest =
    let names = g.N.Names.names c.args.names.now in
    let text = c.args.text.now in
    c.loop-at.invariant last
    (row-sent (text_row names text) c.rows-rows.result.now c.loop-at.at c.index-rows-at.result c.loop-at-test.true c.index-rows-at.is
    c.loop-at.ends.items c.close_ended.new.ends.items c.push_end.new.ends.items c.close_ended.ensures.ended c.in_ok-push_end.ensures
    c.len.result (c.len.ensures ∙ c.close_ended.new.ends.ok.0)
    (g.S.Serializer.written c.loop-at.out) (g.S.Serializer.written c.serialize_text_row.new.out) last c.in_ok-serialize_text_row.ensures rest)

pub returns : goal.returns
returns g c =
    let names = g.N.Names.names c.args.names.now in
    let text = c.args.text.now in
    let rows = c.rows-rows.result.now in
    let first = g.S.Serializer.written c.begin_seq.new.self in
    let end = g.S.Serializer.written c.end_seq.new.self in
    let all = rows_below-all (text_row names text) rows c.args.tree.now c.rows-rows.ensures.tree c.rows-rows.ensures.same
    ∙ items_of_trees-text names text 1 c.args.tree.now in
    let count : length rows ≡ length (rows_text_data names text 1 c.args.tree.now) =
    sym (length-map rows row_of) ∙ sym (length-rows_below (text_row names text) [] 0 (map row_of rows)) ∙ ap length all in
    let none : map row_of (drop c.loop-at.at rows) ≡ [] = ap (map row_of) (drop_all c.loop-at.at rows (omega arith)) in
    on_ok_weaker c.end_seq.result (λ e. (
      first,
      subst (λ n. Logs (g.S.Serializer.written c.args.out.now) first (seq_begins (Some n)))
          (count ∙ sym (items_len-items_of (rows_text_data names text 1 c.args.tree.now))) c.in_ok-begin_seq.ensures,
      subst (λ l. SendsItems (items_of l) first end) all
          (c.loop-at.invariant end (subst (λ l. SendsItems (items_of (rows_below (text_row names text) (reverse c.loop-at.ends.items) c.loop-at.at l))
          (g.S.Serializer.written c.loop-at.out) end) (sym none) e)),
    )) c.end_seq.ensures
