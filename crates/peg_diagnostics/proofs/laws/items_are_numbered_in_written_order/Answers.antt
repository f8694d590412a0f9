use Rattle.peg_diagnostics.proofs.ItemNumbers.{item_terminals-rise, extents-terminals, item_tests-within}
use Rattle.peg_diagnostics.proofs.laws.items_are_numbered_in_written_order.Goals as goal

pub returns : goal.returns
returns c = record { ascending = item_terminals-rise; extents = extents-terminals; tests = item_tests-within }
