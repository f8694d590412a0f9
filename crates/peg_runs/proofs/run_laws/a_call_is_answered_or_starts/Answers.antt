use Rattle.peg_runs.proofs.Stacks.{hits, call_starts, call_counts}
use Rattle.peg_runs.proofs.run_laws.a_call_is_answered_or_starts.Goals as goal

pub returns : goal.returns
returns c = record { answered = hits; begins = call_starts; counts = call_counts }
