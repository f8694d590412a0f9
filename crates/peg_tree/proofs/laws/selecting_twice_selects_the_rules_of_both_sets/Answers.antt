use Rattle.peg_tree.proofs.SelectedLaws.{selected-twice}
use Rattle.peg_tree.proofs.laws.selecting_twice_selects_the_rules_of_both_sets.Goals as goal

pub returns : goal.returns
returns c = selected-twice
