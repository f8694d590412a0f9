use Rattle.peg_core.proofs.SugarRecords.{IsRecord-to_core, IsRecord-from_core}
use Rattle.peg_core.proofs.laws.core_forms_have_the_same_records.Goals as goal

pub returns : goal.returns
returns c = λ rules text e terminal position r bytes.
    (IsRecord-to_core rules text bytes e terminal position r, IsRecord-from_core rules text bytes e terminal position r)
