use Rattle.peg_runs.proofs.Expectations.{has_instruction, not_the_end, takes_away, fails_twice}
use Rattle.peg_runs.proofs.run_laws.a_run_is_never_stuck.Goals as goal

pub returns : goal.returns
returns c = record {
  there = has_instruction;
  no_end = not_the_end;
  commits = takes_away;
  fails_twice = fails_twice;
}
