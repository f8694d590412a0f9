use Rattle.peg_semantics.proofs.RoundsLemmas.{IsWellFormedIn-more}
use Rattle.peg_semantics.proofs.laws.well_formed_expressions_are_monotone.Goals as goal

pub returns : goal.returns
returns c = IsWellFormedIn-more
