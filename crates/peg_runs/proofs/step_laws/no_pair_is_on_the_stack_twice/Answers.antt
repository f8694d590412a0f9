use Rattle.peg_runs.proofs.AccountLemmas.{one_pair_on}
use Rattle.peg_runs.proofs.step_laws.no_pair_is_on_the_stack_twice.Goals as goal

pub returns : goal.returns
returns c = one_pair_on
