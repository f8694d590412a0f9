use Rattle.peg_runs.proofs.PartialRunLemmas.{steps_on, rounds_on}
use Rattle.peg_runs.proofs.step_laws.a_step_consumes_remaining_work.Goals as goal

pub returns : goal.returns
returns c = record { step = steps_on; rounds = rounds_on }
