use Rattle.std.proofs.Common.{◌≡◌, ◌<◌, ◌+◌, ℕ, List, arith, ap, ◌∙◌, get_or, length, map}
use Rattle.peg_tree.specs.declared.row.TreeNode.{TreeNode}
use Rattle.peg_tree.specs.Rows.{row_of, IsOneTree}
use Rattle.peg_tree.specs.Trees.{nodes}
use Rattle.peg_tree.specs.TreesOfRows.{trees_of}
use Rattle.peg_tree.specs.Nodes.{node_at, root_count, child_at}
use Rattle.peg_tree.proofs.NodeRows.{nodes_of_tree, child_within, node_at-child_at, child_at-more}
use Rattle.peg_tree.proofs.rows.child_in.Goals as goal

-- the number of a child is within the node list
module _ (rows : List TreeNode) (one : IsOneTree (map row_of rows)) (number : ℕ) (inside : number < length rows) (nth : ℕ)
    (has : nth < root_count (node_at (trees_of (map row_of rows)) number).children) where
  below : number < nodes (trees_of (map row_of rows))
  below = let count = nodes_of_tree rows one in omega arith

  within_rows : child_at (trees_of (map row_of rows)) number nth < length rows
  within_rows = child_within rows one number below nth has

  within_nodes : child_at (trees_of (map row_of rows)) number nth < nodes (trees_of (map row_of rows))
  within_nodes = let count = nodes_of_tree rows one in omega (arith, within_rows)

  over_child : (at : ℕ) → at ≡ child_at (trees_of (map row_of rows)) number nth → (child : TreeNode) → child ≡ get_or rows at child
      → at + child.size ≡ child_at (trees_of (map row_of rows)) number (nth + 1)
  over_child at here child is =
      ap (λ n. n + child.size) here ∙ child_at-more rows one number below nth has child (is ∙ ap (λ n. get_or rows n child) here)

pub loop-before-init : goal.loop-before-init
loop-before-init c =
    let first = within_rows c.args.rows.now c.requires.tree c.args.node c.requires.within 0 (omega arith) in
    record { here = omega arith; within = omega arith }

pub overflow_add-at-in-loop-before : goal.overflow_add-at-in-loop-before
overflow_add-at-in-loop-before c =
    let next = over_child c.args.rows.now c.requires.tree c.args.node c.requires.within c.loop-before._before (omega arith) c.loop-before.at c.loop-before.invariant.here c.index-rows-at.result c.index-rows-at.is in
    let within = within_rows c.args.rows.now c.requires.tree c.args.node c.requires.within (c.loop-before._before + 1) (omega arith) in
    omega arith

pub loop-before-preserved : goal.loop-before-preserved
loop-before-preserved c =
    let next = over_child c.args.rows.now c.requires.tree c.args.node c.requires.within c.loop-before._before (omega arith) c.loop-before.at c.loop-before.invariant.here c.index-rows-at.result c.index-rows-at.is in
    let within = within_rows c.args.rows.now c.requires.tree c.args.node c.requires.within (c.loop-before._before + 1) (omega arith) in
    record { here = next; within = omega arith }

pub returns : goal.returns
returns c =
    let rows = c.args.rows.now in
    let done : c.loop-before._before ≡ c.args.nth = omega arith in
    let here : c.loop-before.at ≡ child_at (trees_of (map row_of rows)) c.args.node c.args.nth =
    c.loop-before.invariant.here ∙ ap (child_at (trees_of (map row_of rows)) c.args.node) done in
    let within = within_nodes rows c.requires.tree c.args.node c.requires.within c.args.nth c.requires.nth in
    record {
      number = here;
      within = omega arith;
      node = ap (node_at (trees_of (map row_of rows))) here
          ∙ node_at-child_at rows c.requires.tree c.args.node (below rows c.requires.tree c.args.node c.requires.within c.args.nth c.requires.nth) c.args.nth c.requires.nth;
    }
