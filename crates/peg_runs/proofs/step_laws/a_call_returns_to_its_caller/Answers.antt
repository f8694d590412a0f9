use Rattle.peg_runs.proofs.PartialRunLemmas.{returns_on, fails_on}
use Rattle.peg_runs.proofs.step_laws.a_call_returns_to_its_caller.Goals as goal

pub returns : goal.returns
returns c = record { returns = returns_on; fails = fails_on }
