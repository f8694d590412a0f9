use Rattle.std.proofs.Common.{refl}
use Rattle.peg_code.proofs.laws.the_code_agrees_with_hand_worked_grammars.Goals as goal

pub returns : goal.returns
returns c = record { nested = refl; nested_entries = refl; operators = refl; operators_entries = refl }
