use Rattle.peg_semantics.proofs.RankedRules.{IsWellFormedGrammar-from_ranks}
use Rattle.peg_semantics.proofs.laws.ranked_grammars_are_well_formed.Goals as goal

pub returns : goal.returns
returns c = IsWellFormedGrammar-from_ranks
