use Rattle.peg_core.proofs.CoreRounds.{core_record_in-more}
use Rattle.peg_core.proofs.laws.core_records_are_monotone_in_depth.Goals as goal

pub returns : goal.returns
returns c = core_record_in-more
