use Rattle.peg_runs.proofs.AccountLemmas.{match_for_both, fail_for_both}
use Rattle.peg_runs.proofs.account_laws.accounts_end.Goals as goal

pub returns : goal.returns
returns c = record { matches = match_for_both; fails = fail_for_both }
