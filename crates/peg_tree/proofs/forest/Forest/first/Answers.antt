use Rattle.std.proofs.Common.{arith}
use Rattle.peg_tree.proofs.ForestRows.{first_of}
use Rattle.peg_tree.proofs.forest.Forest.first.Goals as goal

pub slice_bounds-children-end : goal.slice_bounds-children-end
slice_bounds-children-end c =
    let first = first_of c.args.self.now.rows.now c.index-self-0.result c.args.self.now.whole c.requires in
    omega (arith, first.fits)

pub invariant_of-children : goal.invariant_of-children
invariant_of-children c =
    let first = first_of c.args.self.now.rows.now c.index-self-0.result c.args.self.now.whole c.requires in
    record { whole = first.below }

pub invariant_of-rest : goal.invariant_of-rest
invariant_of-rest c =
    let first = first_of c.args.self.now.rows.now c.index-self-0.result c.args.self.now.whole c.requires in
    record { whole = first.following }

pub returns : goal.returns
returns c =
    let first = first_of c.args.self.now.rows.now c.index-self-0.result c.args.self.now.whole c.requires in
    first.trees
