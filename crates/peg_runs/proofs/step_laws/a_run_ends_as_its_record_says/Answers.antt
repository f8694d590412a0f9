use Rattle.peg_runs.proofs.PartialRunLemmas.{matches_on, run_fails_on}
use Rattle.peg_runs.proofs.step_laws.a_run_ends_as_its_record_says.Goals as goal

pub returns : goal.returns
returns c = record { matches = matches_on; fails = run_fails_on }
