use Rattle.peg_runs.proofs.AccountLemmas.{hit_for_both, call_for_both}
use Rattle.peg_runs.proofs.account_laws.accounts_follow_calls.Goals as goal

pub returns : goal.returns
returns c = record { hits = hit_for_both; begins = call_for_both }
