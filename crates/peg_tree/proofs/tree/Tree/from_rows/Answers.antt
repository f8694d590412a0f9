use Rattle.std.proofs.Common.{map}
use Rattle.peg_tree.specs.Rows.{row_of}
use Rattle.peg_tree.proofs.Forests.{IsForest-from_one_tree}
use Rattle.peg_tree.proofs.tree.Tree.from_rows.Goals as goal

pub returns-clause-rows : goal.returns-clause-rows
returns-clause-rows c = IsForest-from_one_tree (map row_of c.args.rows.items) c.requires
