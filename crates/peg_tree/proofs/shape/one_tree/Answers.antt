use Rattle.std.proofs.Common.{eqb-true, length, map}
use Rattle.peg_tree.specs.Rows.{row_of}
use Rattle.peg_tree.proofs.Forests.{one_tree_from_forest, whole_from_one_tree, IsForest-from_one_tree}
use Rattle.peg_tree.proofs.shape.one_tree.Goals as goal

pub returns-then-root-rows : goal.returns-then-root-rows
returns-then-root-rows c = (
  λ yes. one_tree_from_forest c.args.rows.now c.in-Some.root.now c.in-Some.ensures.value c.if-root-rows.true (c.is_forest.ensures.0 yes),
  λ one. c.is_forest.ensures.1 (IsForest-from_one_tree (map row_of c.args.rows.now) one),
)

pub returns-else-root-rows : goal.returns-else-root-rows
returns-else-root-rows c = (
  λ same. absurd (c.if-root-rows.false (eqb-true c.in-Some.root.now.size (length c.args.rows.now) same)),
  λ one. absurd (c.if-root-rows.false (whole_from_one_tree c.args.rows.now c.in-Some.root.now c.in-Some.ensures.value one)),
)
