use Rattle.peg_runs.proofs.AccountEvents.{passes_in_both, test_fails_in_both, leaves_in_both, commits_in_both}
use Rattle.peg_runs.proofs.AccountEvents.{fails_twice_in_both}
use Rattle.peg_runs.proofs.account_laws.accounts_follow_instructions.Goals as goal

pub returns : goal.returns
returns c = record {
  passes = passes_in_both;
  fails = test_fails_in_both;
  leaves = leaves_in_both;
  commits = commits_in_both;
  fails_twice = fails_twice_in_both;
}
