use Rattle.std.proofs.Common.{◌-◌, length, map}
use Rattle.peg_lexer.specs.Lexical.{classed_range}
use Rattle.peg_metagrammar.specs.RangesCode.{range_of}
use Rattle.peg_metagrammar.specs.Denotation.{ranges_in}
use Rattle.peg_lexer.proofs.TokenValues.{Spelled}
use Rattle.peg_lexer.proofs.token_values.ranges_before.Given as goal

abbrev pub invariant-items : goal.invariant-items
invariant-items l = Spelled ranges_in classed_range l.rest l.at (map range_of l.ranges.items)

abbrev pub decreases-items : goal.decreases-items
decreases-items l = length l.rest - l.at
