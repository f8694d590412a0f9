use Rattle.peg_metagrammar.proofs.CountsInRange.{IsReading-in_range}
use Rattle.peg_metagrammar.proofs.laws.the_counts_of_a_reading_are_in_range.Goals as goal

pub returns : goal.returns
returns c = IsReading-in_range
