use Rattle.peg_machine.proofs.MemoEvents.{goes_touched, goes_fails, goes_returns}
use Rattle.peg_machine.proofs.memo_laws.memo_may_forget_without_losing_the_invariant.Goals as goal

pub returns : goal.returns
returns c = record { touched = goes_touched; fails = goes_fails; returns = goes_returns }
