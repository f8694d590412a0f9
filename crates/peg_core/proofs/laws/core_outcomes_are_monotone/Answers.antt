use Rattle.peg_core.proofs.CoreRounds.{core_can_in-more}
use Rattle.peg_core.proofs.laws.core_outcomes_are_monotone.Goals as goal

pub returns : goal.returns
returns c = core_can_in-more
