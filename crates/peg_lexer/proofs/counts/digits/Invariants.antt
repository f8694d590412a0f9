use Rattle.std.proofs.Common.{◌-◌, length}
use Rattle.peg_lexer.specs.Lexical.{digit}
use Rattle.peg_lexer.proofs.PieceLemmas.{Passed}
use Rattle.peg_lexer.proofs.counts.digits.Given as goal

abbrev pub invariant-digits : goal.invariant-digits
invariant-digits l = Passed digit l.rest l.at

abbrev pub decreases-digits : goal.decreases-digits
decreases-digits l = length l.rest - l.at
