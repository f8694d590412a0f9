use Rattle.std.proofs.Common.{ap, sym, ◌∙◌}
use Rattle.peg_tree.specs.Trees.{nodes}
use Rattle.peg_tree.proofs.NodeRows.{nodes_of_tree}
use Rattle.peg_tree.proofs.tree.Tree.len.Goals as goal

pub returns-clause-count : goal.returns-clause-count
returns-clause-count c =
    c.len.ensures
    ∙ c.self.inside.rows.ok.0
    ∙ sym (nodes_of_tree c.self.inside.rows.items c.self.invariant)
    ∙ ap nodes c.self.view_is
