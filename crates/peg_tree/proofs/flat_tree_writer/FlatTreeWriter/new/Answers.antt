use Rattle.std.proofs.Common.{◌≡◌, ◌++◌, ◌∷◌, [], IfOk, false, subst}
use Rattle.serde_json.specs.View.{items_of}
use Rattle.serde_json.specs.Written.{items_text}
use Rattle.peg_tree.specs.FlatTreeLeft.{text_left}
use Rattle.peg_tree.specs.Json.{rows_data}
use Rattle.peg_tree.specs.Trees.{Trees}
use Rattle.peg_tree.proofs.SelectedLaws.{selected-all}
use Rattle.peg_tree.proofs.flat_tree_writer.FlatTreeWriter.new.Goals as goal

pub returns : goal.returns
returns g c =
    subst (λ (tree : Trees). IfOk c.start.result (λ text. text_left text ++ 93 ∷ []
    ≡ items_text false (items_of (rows_data (g.N.Names.names c.args.names.now) 1 tree)))) (selected-all c.args.tree) c.start.ensures
