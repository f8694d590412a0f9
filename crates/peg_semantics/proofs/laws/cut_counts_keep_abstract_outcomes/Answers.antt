use Rattle.peg_semantics.proofs.CutGrammar.{AreAbstractOutcomes-cut}
use Rattle.peg_semantics.proofs.CutOutcomes.{can_in-cut}
use Rattle.peg_semantics.proofs.laws.cut_counts_keep_abstract_outcomes.Goals as goal

pub returns : goal.returns
returns c = record { rounds = can_in-cut; rules = AreAbstractOutcomes-cut }
