use Rattle.peg_machine.proofs.EntryLemmas.{CountsAscend-push, CountsAscend-pop, CountsAscend-wider}
use Rattle.peg_machine.proofs.stack_laws.node_counts_ascend.Goals as goal

pub returns : goal.returns
returns c = record { push = CountsAscend-push; pop = CountsAscend-pop; wider = CountsAscend-wider }
