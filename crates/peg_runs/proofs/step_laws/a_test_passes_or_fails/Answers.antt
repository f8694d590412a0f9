use Rattle.peg_runs.proofs.InstructionEvents.{passes_on, test_fails_on}
use Rattle.peg_runs.proofs.step_laws.a_test_passes_or_fails.Goals as goal

pub returns : goal.returns
returns c = record { passes = passes_on; fails = test_fails_on }
