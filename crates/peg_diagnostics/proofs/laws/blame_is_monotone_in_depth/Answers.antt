use Rattle.peg_diagnostics.proofs.BlameLemmas.{blame_in-more}
use Rattle.peg_diagnostics.proofs.laws.blame_is_monotone_in_depth.Goals as goal

pub returns : goal.returns
returns c = blame_in-more
