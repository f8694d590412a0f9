use Rattle.peg_semantics.proofs.FurthestLemmas.{furthest_of-is}
use Rattle.peg_semantics.proofs.laws.one_pass_gives_the_furthest_failure.Goals as goal

pub returns : goal.returns
returns c = furthest_of-is
