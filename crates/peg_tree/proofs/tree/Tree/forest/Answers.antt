use Rattle.std.proofs.Common.{subst, sym, map}
use Rattle.peg_tree.specs.Rows.{row_of, IsOneTree}
use Rattle.peg_tree.proofs.Forests.{IsForest-from_one_tree}
use Rattle.peg_tree.proofs.tree.Tree.forest.Goals as goal

pub of_rows-requires : goal.of_rows-requires
of_rows-requires c =
    IsForest-from_one_tree (map row_of c.deref.result.now)
    (subst (λ rows. IsOneTree (map row_of rows)) (sym c.deref.ensures.value) c.self.invariant)
