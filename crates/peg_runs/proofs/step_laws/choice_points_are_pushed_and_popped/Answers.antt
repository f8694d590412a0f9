use Rattle.peg_runs.proofs.InstructionEvents.{leaves_on, commits_on, fails_twice_on}
use Rattle.peg_runs.proofs.PartialRunLemmas.{falls_back_on}
use Rattle.peg_runs.proofs.step_laws.choice_points_are_pushed_and_popped.Goals as goal

pub returns : goal.returns
returns c = record { leaves = leaves_on; commits = commits_on; fails_twice = fails_twice_on; falls_back = falls_back_on }
