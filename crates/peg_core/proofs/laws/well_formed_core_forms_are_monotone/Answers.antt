use Rattle.peg_core.proofs.CoreRounds.{IsCoreWellFormedIn-more}
use Rattle.peg_core.proofs.laws.well_formed_core_forms_are_monotone.Goals as goal

pub returns : goal.returns
returns c = IsCoreWellFormedIn-more
