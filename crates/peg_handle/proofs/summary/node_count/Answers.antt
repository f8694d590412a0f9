use Rattle.std.proofs.Common.{◌∙◌, ap, length, sym}
use Rattle.peg_handle.specs.Nodes.{parsed_nodes}
use Rattle.peg_handle.proofs.NodeLemmas.{length_tree_nodes}
use Rattle.peg_handle.proofs.summary.node_count.Goals as goal

pub returns-in-Matched : goal.returns-in-Matched
returns-in-Matched c =
    sym (ap (λ parsed. length (parsed_nodes parsed)) c.in-Matched.is
    ∙ length_tree_nodes c.in-Matched.tree c.nodes.result.now c.nodes.ensures)
