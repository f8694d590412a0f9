use Rattle.peg_machine.proofs.EntryLemmas.{stack_of-more_rows, stack_of-fewer_rows, stack_of-changed_row}
use Rattle.peg_machine.proofs.stack_laws.later_nodes_change_no_stack.Goals as goal

pub returns : goal.returns
returns c = record { more = stack_of-more_rows; fewer = stack_of-fewer_rows; changed = stack_of-changed_row }
