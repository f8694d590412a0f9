use Rattle.peg_runs.proofs.Expectations.{falls_to_way, gives_up}
use Rattle.peg_runs.proofs.Stacks.{falls_through}
use Rattle.peg_runs.proofs.run_laws.a_call_backtracks_or_fails.Goals as goal

pub returns : goal.returns
returns c = record { choice_point = falls_to_way; gives_up = gives_up; caller_fails = falls_through }
