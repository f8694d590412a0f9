use Rattle.peg_machine.proofs.PackratLemmas.{never_shown}
use Rattle.peg_machine.proofs.packrat_laws.a_call_that_starts_was_never_traced.Goals as goal

pub returns : goal.returns
returns c = never_shown
