use Rattle.peg_runs.proofs.FirstRecords.{first_record}
use Rattle.peg_runs.proofs.laws.each_record_has_a_first_number.Goals as goal

pub returns : goal.returns
returns c = first_record
