use Rattle.std.proofs.Common.{◌≡◌, ◌<◌, ◌≤◌, ◌+◌, arith, ap, ◌∙◌, ℕ, List, get_or, length, map}
use Rattle.peg_tree.specs.declared.row.TreeNode.{TreeNode}
use Rattle.peg_tree.specs.Rows.{row_of, IsOneTree}
use Rattle.peg_tree.specs.Trees.{nodes}
use Rattle.peg_tree.specs.TreesOfRows.{trees_of}
use Rattle.peg_tree.specs.Nodes.{node_at, root_count, child_at}
use Rattle.peg_tree.proofs.NodeRows.{nodes_of_tree, end_of_node, more_children, no_more_children, child_at-more, child_ends_within, child_has_size}
use Rattle.peg_tree.proofs.rows.count_in.Goals as goal

pub overflow_add-end : goal.overflow_add-end
overflow_add-end c =
    let count = nodes_of_tree c.args.rows.now c.requires.tree in
    omega (arith, end_of_node c.args.rows.now c.requires.tree c.args.node (omega arith))

pub loop-at-init : goal.loop-at-init
loop-at-init c =
    let count = nodes_of_tree c.args.rows.now c.requires.tree in
    let end_within = end_of_node c.args.rows.now c.requires.tree c.args.node (omega arith) in
    record { few = omega arith; low = omega arith; here = omega arith; all = omega arith; within = omega arith }

-- after this child comes the next child or the end
step : (rows : List TreeNode) (one : IsOneTree (map row_of rows)) (number : ℕ) → number < length rows
    → (nth at : ℕ) → nth ≤ root_count (node_at (trees_of (map row_of rows)) number).children
    → at ≡ child_at (trees_of (map row_of rows)) number nth
    → at < number + 1 + nodes (node_at (trees_of (map row_of rows)) number).children
    → (child : TreeNode) → child ≡ get_or rows at child
    → (nth < root_count (node_at (trees_of (map row_of rows)) number).children)
    × (at + child.size ≡ child_at (trees_of (map row_of rows)) number (nth + 1))
    × (at + child.size ≤ length rows) × (0 < child.size)
step rows one number inside nth at few here left child is =
    let count = nodes_of_tree rows one in
    let within : number < nodes (trees_of (map row_of rows)) = omega arith in
    let has = more_children rows one number within nth few (omega arith) in
    let there : child ≡ get_or rows (child_at (trees_of (map row_of rows)) number nth) child = is ∙ ap (λ n. get_or rows n child) here in
    let next = child_at-more rows one number within nth has child there in
    let ends = child_ends_within rows one number within nth has in
    let all = end_of_node rows one number within in
    let some = child_has_size rows one number within nth has child there in
    (has, omega arith, omega arith, some)

pub overflow_add-at-in-loop-at : goal.overflow_add-at-in-loop-at
overflow_add-at-in-loop-at c =
    omega (arith, (step c.args.rows.now c.requires.tree c.args.node c.requires.within c.loop-at.count c.loop-at.at c.loop-at.invariant.few c.loop-at.invariant.here (omega arith) c.index-rows-at.result c.index-rows-at.is).2)

pub loop-at-smaller : goal.loop-at-smaller
loop-at-smaller c =
    omega (arith, (step c.args.rows.now c.requires.tree c.args.node c.requires.within c.loop-at.count c.loop-at.at c.loop-at.invariant.few c.loop-at.invariant.here (omega arith) c.index-rows-at.result c.index-rows-at.is).3)

pub loop-at-preserved : goal.loop-at-preserved
loop-at-preserved c =
    let next = step c.args.rows.now c.requires.tree c.args.node c.requires.within c.loop-at.count c.loop-at.at c.loop-at.invariant.few c.loop-at.invariant.here (omega arith) c.index-rows-at.result c.index-rows-at.is in
    record { few = omega arith; low = omega arith; here = next.1; all = c.loop-at.invariant.all; within = c.loop-at.invariant.within }

pub returns : goal.returns
returns c =
    let count = nodes_of_tree c.args.rows.now c.requires.tree in
    no_more_children c.args.rows.now c.requires.tree c.args.node (omega arith) c.loop-at.count c.loop-at.invariant.few (omega arith)
