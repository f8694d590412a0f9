use Rattle.std.proofs.Common.{arith, map}
use Rattle.peg_tree.specs.Rows.{row_of}
use Rattle.peg_tree.proofs.Forests.{IsForest-from_one_tree, drop_forest, tree_within}
use Rattle.peg_tree.proofs.nested_tree.begin_node.Goals as goal

pub overflow_add-end : goal.overflow_add-end
overflow_add-end g c =
    let rows = c.args.rows.now in
    let forest = drop_forest rows c.args.at (IsForest-from_one_tree (map row_of rows) c.requires.tree) in
    omega (arith, tree_within rows c.args.at c.index-rows-at.result c.requires.within c.index-rows-at.is forest)
