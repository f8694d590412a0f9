use Rattle.peg_runs.proofs.InstructionEvents.{never_past, never_at_the_end, some_to_come}
use Rattle.peg_runs.proofs.step_laws.a_run_continues.Goals as goal

pub returns : goal.returns
returns c = record { there = never_past; no_end = never_at_the_end; to_come = some_to_come }
