use Rattle.peg_tree.proofs.SelectedLaws.{selected-all}
use Rattle.peg_tree.proofs.laws.selecting_all_rules_changes_nothing.Goals as goal

pub returns : goal.returns
returns c = selected-all
