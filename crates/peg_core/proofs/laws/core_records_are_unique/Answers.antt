use Rattle.peg_core.proofs.CoreRounds.{one_core_record}
use Rattle.peg_core.proofs.laws.core_records_are_unique.Goals as goal

pub returns : goal.returns
returns c = one_core_record
