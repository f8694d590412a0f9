use Rattle.peg_machine.proofs.MemoEvents.{goes_hits, goes_calls}
use Rattle.peg_machine.proofs.memo_laws.a_hit_or_a_call.Goals as goal

pub returns : goal.returns
returns c = record { hits = goes_hits; begins = goes_calls }
