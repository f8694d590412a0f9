use Rattle.std.proofs.Common.{◌≡◌, ◌+◌, ◌-◌, List, arith, ap, ◌∙◌, drop, length, map, subst, sym, take}
use Rattle.std.proofs.lemmas.Bool.{false≢true, both_ways}
use Rattle.std.proofs.lemmas.List.{take_rest}
use Rattle.peg_tree.specs.declared.row.TreeNode.{TreeNode}
use Rattle.peg_tree.specs.Rows.{row_of}
use Rattle.peg_tree.specs.Trees.{nodes}
use Rattle.peg_tree.specs.TreesOfRows.{IsForest, first_trees, trees_of}
use Rattle.peg_tree.proofs.Forests.{size_counts, drop_forest, forest_from_here}
use Rattle.peg_tree.proofs.shape.is_forest.Goals as goal

pub returns-then-row-eq0 : goal.returns-then-row-eq0
returns-then-row-eq0 c =
    let rows = c.args.rows.now in
    let at = c.loop-at.at - 1 in (
      λ no. absurd (false≢true no),
      λ forest.
          let counts = size_counts rows at c.index-rows-at.result (omega arith) c.index-rows-at.is (drop_forest rows at forest) in
          absurd (omega arith),
    )

pub returns-then-not-are_whole_trees : goal.returns-then-not-are_whole_trees
returns-then-not-are_whole_trees c =
    let rows = c.args.rows.now in
    let at = c.loop-at.at - 1 in
    let same : drop (at + 1) rows ≡ take (length rows - c.loop-at.at) (drop c.loop-at.at rows) =
    (let e : at + 1 ≡ c.loop-at.at = omega arith in ap (λ n. drop n rows) e) ∙ sym (take_rest rows c.loop-at.at) in (
      λ no. absurd (false≢true no),
      λ forest.
          let counts = size_counts rows at c.index-rows-at.result (omega arith) c.index-rows-at.is (drop_forest rows at forest) in
          let whole = λ (l : List TreeNode). nodes (first_trees (c.index-rows-at.result.size - 1) (trees_of (map row_of l))) ≡ c.index-rows-at.result.size - 1 in
          absurd (both_ways c.are_whole_trees.result c.if-not-are_whole_trees.true (c.are_whole_trees.ensures.1 (subst whole same counts.1))),
    )

pub loop-at-preserved : goal.loop-at-preserved
loop-at-preserved c =
    let rows = c.args.rows.now in
    let at = c.loop-at.at - 1 in
    let next : c.loop-at.at ≡ at + 1 = omega arith in
    let same : take (length rows - c.loop-at.at) (drop c.loop-at.at rows) ≡ drop (at + 1) rows =
    take_rest rows c.loop-at.at ∙ ap (λ n. drop n rows) next in
    let whole = λ (l : List TreeNode). nodes (first_trees (c.index-rows-at.result.size - 1) (trees_of (map row_of l))) ≡ c.index-rows-at.result.size - 1 in
    let forest = subst (λ n. IsForest (map row_of (drop n rows))) next c.loop-at.invariant.forest in
    record {
      within = omega arith;
      forest = forest_from_here rows at c.index-rows-at.result (omega arith) c.index-rows-at.is forest (omega arith)
          (subst whole same (c.are_whole_trees.ensures.0 c.if-not-are_whole_trees.false));
    }
