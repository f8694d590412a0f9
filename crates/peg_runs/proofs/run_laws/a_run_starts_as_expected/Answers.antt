use Rattle.peg_runs.proofs.Stacks.{begins_run}
use Rattle.peg_runs.proofs.run_laws.a_run_starts_as_expected.Goals as goal

pub returns : goal.returns
returns c = begins_run
