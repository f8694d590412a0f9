use Rattle.peg_semantics.proofs.RoundsLemmas.{can_in-more}
use Rattle.peg_semantics.proofs.laws.abstract_outcomes_are_monotone.Goals as goal

pub returns : goal.returns
returns c = can_in-more
