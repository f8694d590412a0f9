use Rattle.std.proofs.Common.{refl}
use Rattle.peg_bytes.specs.ByteSet.{only, all_bytes}
use Rattle.peg_core.specs.CoreOutcomes.{core_can_in}
use Rattle.peg_core.specs.CoreRecord.{core_record_in}
use Rattle.peg_core.proofs.laws.the_core_forms_agree_with_hand_worked_grammars.Goals as goal

pub returns : goal.returns
unfolding only all_bytes core_can_in core_record_in
returns c = record {
  nested = refl;
  operators = refl;
  recognized = (16, refl);
  outcomes = refl;
  two_to_four = refl;
  two_to_four_parts = refl;
  empties = refl;
  empties_parts = refl;
  nested_empties = refl;
  three = (16, refl);
}
