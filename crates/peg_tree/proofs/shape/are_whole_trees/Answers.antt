use Rattle.std.proofs.Common.{◌≡◌, drop, map, rules, arith}
use Rattle.peg_tree.specs.Rows.{row_of}
use Rattle.peg_tree.specs.Trees.{nodes}
use Rattle.peg_tree.specs.TreesOfRows.{first_trees, trees_of}
use Rattle.peg_tree.proofs.Forests.{tree_within, forest_after, counted_after, nodes-first_trees-none}
use Rattle.peg_tree.proofs.shape.are_whole_trees.Goals as goal

pub overflow_add-at : goal.overflow_add-at
overflow_add-at c =
    omega (arith, tree_within c.args.rows.now c.loop-left.at c.index-rows-at.result c.if-at-rows.false c.index-rows-at.is c.loop-left.invariant.forest)

pub loop-left-preserved : goal.loop-left-preserved
loop-left-preserved c =
    let next = counted_after c.args.rows.now c.loop-left.at c.index-rows-at.result c.if-at-rows.false c.index-rows-at.is c.loop-left.invariant.forest c.loop-left.left c.if-tree-left.false in
    record {
      within = tree_within c.args.rows.now c.loop-left.at c.index-rows-at.result c.if-at-rows.false c.index-rows-at.is c.loop-left.invariant.forest;
      fits = omega arith;
      forest = forest_after c.args.rows.now c.loop-left.at c.index-rows-at.result c.if-at-rows.false c.index-rows-at.is c.loop-left.invariant.forest;
      same = omega arith;
    }

pub returns : goal.returns
returns c =
    let zero_left : c.loop-left.left ≡ 0 = omega arith in
    let none : nodes (first_trees c.loop-left.left (trees_of (map row_of (drop c.loop-left.at c.args.rows.now)))) ≡ 0 =
    rw zero_left (nodes-first_trees-none (trees_of (map row_of (drop c.loop-left.at c.args.rows.now)))) in
    (λ _. omega arith, λ _. search rules)
