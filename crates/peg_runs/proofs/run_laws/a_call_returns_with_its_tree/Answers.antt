use Rattle.peg_runs.proofs.RowClosing.{close_row-closes}
use Rattle.peg_runs.proofs.Stacks.{start_returns}
use Rattle.peg_runs.proofs.Stacks.{returns as returns_to_caller}
use Rattle.peg_runs.proofs.run_laws.a_call_returns_with_its_tree.Goals as goal

pub returns : goal.returns
returns c = record { returns = returns_to_caller; start = start_returns; row = close_row-closes }
