use Rattle.peg_runs.proofs.TasksTogether.{no_pair_twice}
use Rattle.peg_runs.proofs.run_laws.no_call_is_active_twice.Goals as goal

pub returns : goal.returns
returns c = no_pair_twice
