use Rattle.peg_tree.proofs.NodeRows.{within_rows}
use Rattle.peg_tree.proofs.tree.Tree.child_count.Goals as goal

pub count_in-requires-clause-within : goal.count_in-requires-clause-within
count_in-requires-clause-within c =
    rw c.deref.ensures.value (within_rows c.self.inside.rows.items c.self.invariant c.args.self.now c.self.view_is c.args.node c.requires)
