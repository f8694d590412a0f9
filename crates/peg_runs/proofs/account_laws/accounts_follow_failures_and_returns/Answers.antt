use Rattle.peg_runs.proofs.AccountEvents.{falls_back_in_both, fails_in_both, returns_in_both}
use Rattle.peg_runs.proofs.account_laws.accounts_follow_failures_and_returns.Goals as goal

pub returns : goal.returns
returns c = record {
  falls_back = falls_back_in_both;
  fails = fails_in_both;
  returns = returns_in_both;
}
