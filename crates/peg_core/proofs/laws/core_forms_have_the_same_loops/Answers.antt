use Rattle.peg_core.proofs.SugarLoops.{IsEmptyLoop-to_core, IsEmptyLoop-from_core}
use Rattle.peg_core.proofs.SugarMeets.{LeftCalls-to_core, LeftCalls-from_core, IsLeftCycle-to_core}
use Rattle.peg_core.proofs.SugarMeets.{IsLeftCycle-from_core}
use Rattle.peg_core.proofs.laws.core_forms_have_the_same_loops.Goals as goal

pub returns : goal.returns
returns c = record {
  meets = λ rules first second within.
      (LeftCalls-to_core rules first second, LeftCalls-from_core rules first second within);
  left_cycles = λ rules path. (IsLeftCycle-to_core rules path, IsLeftCycle-from_core rules path);
  empty_loops = λ rules rule span. (IsEmptyLoop-to_core rules span rule, IsEmptyLoop-from_core rules span rule);
}
