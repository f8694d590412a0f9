use Rattle.peg_memo.proofs.HeldLemmas.{fewer_are_held}
use Rattle.peg_memo.proofs.laws.entries_are_no_more_than_pairs.Goals as goal

pub returns : goal.returns
returns c = fewer_are_held
