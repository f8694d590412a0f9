use Rattle.peg_runs.proofs.TasksTogether.{within_the_start}
use Rattle.peg_runs.proofs.run_laws.each_task_is_part_of_the_start.Goals as goal

pub returns : goal.returns
returns c = within_the_start
