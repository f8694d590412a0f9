use Rattle.std.proofs.Common.{◌-◌, length}
use Rattle.peg_lexer.specs.Lexical.{classed_range}
use Rattle.peg_lexer.proofs.PieceLemmas.{Passed}
use Rattle.peg_lexer.proofs.scan_literals.ranges_before_bracket.Given as goal

abbrev pub invariant-items : goal.invariant-items
invariant-items l = Passed classed_range l.rest l.at

abbrev pub decreases-items : goal.decreases-items
decreases-items l = length l.rest - l.at
