use Rattle.std.proofs.Common.{◌≡◌, ◌∙◌, Some, arith, ap, get_or, min, sym}
use Rattle.peg_tree.specs.Rows.{row_of}
use Rattle.peg_tree.specs.declared.row.TreeNode.{TreeNode}
use Rattle.peg_handle.specs.Nodes.{node_at_level}
use Rattle.peg_handle.proofs.NodeLemmas.{get_nodes_of_rows}
use Rattle.peg_handle.proofs.nodes.node_at.Goals as goal

pub returns : goal.returns
returns c =
    let node = c.index-nodes-number.result in
    let level = get_or c.args.levels.now c.args.number 0 in
    get_nodes_of_rows c.args.nodes.now c.args.levels.now c.args.number node 0 c.requires.within (omega arith)
    ∙ ap (λ (n : TreeNode). Some (node_at_level (row_of n) level)) (sym c.index-nodes-number.is)
    ∙ ap (λ (n : Rattle.std.proofs.Common.ℕ). Some (record (node_at_level (row_of node) level) { level = n })) (sym c.min.ensures)
