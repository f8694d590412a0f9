use Rattle.peg_semantics.proofs.LoopFree.{no_empty_loop, no_left_cycle}
use Rattle.peg_semantics.proofs.laws.well_formed_grammars_have_no_loops.Goals as goal

pub returns : goal.returns
returns c = record { empty_loops = no_empty_loop; left_cycles = no_left_cycle }
