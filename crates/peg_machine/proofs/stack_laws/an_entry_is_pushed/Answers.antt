use Rattle.std.proofs.Common.{[]}
use Rattle.peg_machine.proofs.EntryLemmas.{stack_over-push}
use Rattle.peg_machine.proofs.stack_laws.an_entry_is_pushed.Goals as goal

pub returns : goal.returns
returns c = λ rows. stack_over-push rows []
