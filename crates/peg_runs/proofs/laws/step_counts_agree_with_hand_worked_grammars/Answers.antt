use Rattle.std.proofs.Common.{refl}
use Rattle.peg_bytes.specs.ByteSet.{only}
use Rattle.peg_core.specs.CoreRecord.{core_record_in}
use Rattle.peg_runs.specs.Steps.{steps_in}
use Rattle.peg_runs.proofs.laws.step_counts_agree_with_hand_worked_grammars.Goals as goal

pub returns : goal.returns
unfolding only core_record_in steps_in
returns c = record { nested = refl; repeated_prefix = refl; outer_own = refl; inner_own = refl }
