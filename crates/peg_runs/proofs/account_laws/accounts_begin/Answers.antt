use Rattle.peg_runs.proofs.AccountLemmas.{begin_for_both}
use Rattle.peg_runs.proofs.account_laws.accounts_begin.Goals as goal

pub returns : goal.returns
returns c = begin_for_both
