use Rattle.std.proofs.Common.{ap, map, ◌∙◌}
use Rattle.peg_tree.specs.Rows.{row_of}
use Rattle.peg_tree.specs.Selected.{has_rule, selected}
use Rattle.peg_tree.specs.TreesCode.{trees_of-rows_of}
use Rattle.peg_tree.specs.TreesOfRows.{trees_of}
use Rattle.peg_tree.proofs.SelectedLemmas.{IsOneTree-selected}
use Rattle.peg_tree.proofs.tree.Tree.select.Goals as goal

pub from_rows-requires : goal.from_rows-requires
from_rows-requires c =
    IsOneTree-selected _ (map row_of c.rows.result.now) (map row_of c.in_ok-rows.rows.items)
    c.rows.ensures.tree c.in_ok-rows.ensures

pub returns : goal.returns
returns c =
    let shown = has_rule c.args.shown.now in
    c.from_rows.ensures.trees
    ∙ ap trees_of c.in_ok-rows.ensures
    ∙ trees_of-rows_of (selected shown (trees_of (map row_of c.rows.result.now)))
    ∙ ap (selected shown) c.rows.ensures.same
