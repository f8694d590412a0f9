use Rattle.peg_semantics.specs.Record.{Matched}
use Rattle.peg_core.proofs.CoreShown.{core_result-shows}
use Rattle.peg_core.proofs.CoreWithin.{core_record_in-in_text, core_record_in-ends}
use Rattle.peg_core.proofs.record_laws.core_records_never_move_back.Goals as goal

pub returns : goal.returns
returns c = record {
  onward = λ bodies text n form position end trees r is matched.
      (core_result-shows bodies text n form position r (Matched end trees) is matched).onward;
  within = core_record_in-ends;
  tests = core_record_in-in_text;
}
