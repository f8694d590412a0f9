use Rattle.peg_runs.proofs.StepsOfRecords.{steps_in-there}
use Rattle.peg_runs.proofs.laws.steps_are_counted_where_a_record_is.Goals as goal

pub returns : goal.returns
returns c = steps_in-there
