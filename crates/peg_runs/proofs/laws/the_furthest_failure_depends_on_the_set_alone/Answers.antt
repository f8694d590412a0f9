use Rattle.peg_runs.proofs.FurthestBySet.{same_furthest}
use Rattle.peg_runs.proofs.laws.the_furthest_failure_depends_on_the_set_alone.Goals as goal

pub returns : goal.returns
returns c = same_furthest
