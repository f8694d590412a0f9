use Rattle.peg_tree.proofs.SelectedLaws.{RulesBelow-selected}
use Rattle.peg_tree.proofs.laws.a_selected_tree_has_no_other_rules.Goals as goal

pub returns : goal.returns
returns c = RulesBelow-selected
