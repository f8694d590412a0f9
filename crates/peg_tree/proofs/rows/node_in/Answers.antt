use Rattle.std.proofs.Common.{◌≡◌, ◌<◌, ap, arith, map}
use Rattle.peg_tree.specs.Rows.{Row, row_of}
use Rattle.peg_tree.specs.Trees.{nodes}
use Rattle.peg_tree.specs.TreesOfRows.{trees_of}
use Rattle.peg_tree.specs.Nodes.{node_at}
use Rattle.peg_tree.proofs.NodeRows.{row_at, nodes_of_tree, row_of_node}
use Rattle.peg_tree.proofs.rows.node_in.Goals as goal

-- the entry that is read is that of the node
pub returns : goal.returns
returns c =
    let rows = c.args.rows.now in
    let count = nodes_of_tree rows c.requires.tree in
    let within : c.args.node < nodes (trees_of (map row_of rows)) = omega arith in
    let same : row_of c.index-rows-node.result ≡ row_at (node_at (trees_of (map row_of rows)) c.args.node) =
    row_of_node rows c.requires.tree c.args.node within c.index-rows-node.result c.index-rows-node.is in
    record {
      rule = ap (λ (row : Row). row.rule) same;
      start = ap (λ (row : Row). row.start) same;
      end = ap (λ (row : Row). row.end) same;
      size = ap (λ (row : Row). row.size) same;
    }
