use Rattle.peg_semantics.proofs.RecordLemmas.{one_record}
use Rattle.peg_semantics.proofs.laws.records_are_unique.Goals as goal

pub returns : goal.returns
returns c = one_record
