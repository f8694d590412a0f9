use Rattle.peg_runs.proofs.AccountLemmas.{does_for_both}
use Rattle.peg_runs.proofs.account_laws.accounts_follow_what_is_done.Goals as goal

pub returns : goal.returns
returns c = does_for_both
