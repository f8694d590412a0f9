use Rattle.peg_diagnostics.proofs.BlameLemmas.{one_blame}
use Rattle.peg_diagnostics.proofs.laws.blame_is_unique.Goals as goal

pub returns : goal.returns
returns c = one_blame
