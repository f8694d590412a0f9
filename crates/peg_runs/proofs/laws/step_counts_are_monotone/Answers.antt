use Rattle.peg_runs.proofs.StepRounds.{steps_in-more}
use Rattle.peg_runs.proofs.laws.step_counts_are_monotone.Goals as goal

pub returns : goal.returns
returns c = steps_in-more
