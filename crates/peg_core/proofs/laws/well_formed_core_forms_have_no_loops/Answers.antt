use Rattle.peg_core.proofs.CoreRefutations.{no-empty-loop, no-left-cycle}
use Rattle.peg_core.proofs.laws.well_formed_core_forms_have_no_loops.Goals as goal

pub returns : goal.returns
returns c = record {
  empty_loops = λ bodies all rule origin. no-empty-loop bodies all rule origin;
  left_cycles = λ bodies all path. no-left-cycle bodies all path;
}
