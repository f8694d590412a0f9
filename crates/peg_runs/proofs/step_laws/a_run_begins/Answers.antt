use Rattle.peg_runs.proofs.PartialRunLemmas.{begins_on}
use Rattle.peg_runs.proofs.step_laws.a_run_begins.Goals as goal

pub returns : goal.returns
returns c = begins_on
