use Rattle.std.proofs.Common.{◌≡◌, ◌++◌, [], arith, ap, sym, ◌∙◌, drop, map, reverse}
use Rattle.std.proofs.lemmas.List.{append-nil, drop_all}
use Rattle.peg_tree.specs.Rows.{row_of}
use Rattle.peg_tree.specs.Levels.{levels_of_rows}
use Rattle.peg_tree.specs.TreesOfRows.{trees_of}
use Rattle.peg_tree.proofs.Forests.{IsForest-from_one_tree, drop_forest, tree_within}
use Rattle.peg_tree.proofs.LevelRows.{levels_of_rows-more, levels_of_rows-rows_of}
use Rattle.peg_tree.proofs.levels.levels_in.Goals as goal

pub overflow_add-at : goal.overflow_add-at
overflow_add-at c =
    let rows = c.args.rows.now in
    let forest = drop_forest rows c.loop-at.at (IsForest-from_one_tree (map row_of rows) c.requires) in
    omega (arith, tree_within rows c.loop-at.at c.index-rows-at.result c.loop-at-test.true c.index-rows-at.is forest)

pub loop-at-preserved : goal.loop-at-preserved
loop-at-preserved c = record {
  same = levels_of_rows-more c.args.rows.now c.loop-at.at c.index-rows-at.result c.loop-at-test.true c.index-rows-at.is
      c.loop-at.ends.items c.close_ended.new.ends.items c.push-in-loop-at.new.self.items c.loop-at.levels.items c.push.new.self.items
      (levels_of_rows [] 0 (map row_of c.args.rows.now)) c.len.result
      c.close_ended.ensures.ended (c.len.ensures ∙ c.close_ended.new.ends.ok.0) c.in_ok-push-2.ensures.items c.in_ok-push.ensures.items
      c.loop-at.invariant.same;
}

pub returns : goal.returns
returns c =
    let rows = c.args.rows.now in
    let none : map row_of (drop c.loop-at.at rows) ≡ [] = ap (map row_of) (drop_all c.loop-at.at rows (omega arith)) in
    sym (append-nil c.loop-at.levels.items)
    ∙ ap (λ l. c.loop-at.levels.items ++ levels_of_rows (reverse c.loop-at.ends.items) c.loop-at.at l) (sym none)
    ∙ c.loop-at.invariant.same
    ∙ ap (levels_of_rows [] 0) (sym (IsForest-from_one_tree (map row_of rows) c.requires))
    ∙ levels_of_rows-rows_of (trees_of (map row_of rows))
