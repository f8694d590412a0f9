use Rattle.peg_runs.proofs.Expectations.{step_done, after_rounds}
use Rattle.peg_runs.proofs.run_laws.a_step_consumes_promised_work.Goals as goal

pub returns : goal.returns
returns c = record { step = step_done; rounds = after_rounds }
