use Rattle.std.proofs.Common.{ap, map, sym, ◌∙◌}
use Rattle.peg_tree.specs.Rows.{row_of, rows_of}
use Rattle.peg_tree.proofs.Forests.{IsForest-from_one_tree}
use Rattle.peg_tree.proofs.tree.Tree.nodes.Goals as goal

pub returns : goal.returns
returns c =
    let rows = c.self.inside.rows.items in
    ap (map row_of) c.as_slice.ensures.value
    ∙ sym (IsForest-from_one_tree (map row_of rows) c.self.invariant)
    ∙ ap rows_of c.self.view_is
