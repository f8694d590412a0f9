use Rattle.peg_core.proofs.SugarWellFormed.{IsWellFormed-to_core, IsWellFormed-from_core}
use Rattle.peg_core.proofs.laws.core_forms_are_well_formed_alike.Goals as goal

pub returns : goal.returns
returns c = λ rules e terminal. (IsWellFormed-to_core rules e terminal, IsWellFormed-from_core rules e terminal)
