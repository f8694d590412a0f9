use Rattle.peg_semantics.proofs.RecordLemmas.{record_in-more}
use Rattle.peg_semantics.proofs.laws.records_are_monotone_in_depth.Goals as goal

pub returns : goal.returns
returns c = record_in-more
