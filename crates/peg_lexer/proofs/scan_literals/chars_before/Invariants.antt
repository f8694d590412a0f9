use Rattle.std.proofs.Common.{◌-◌, length}
use Rattle.peg_lexer.specs.Lexical.{quoted_char}
use Rattle.peg_lexer.proofs.PieceLemmas.{Passed}
use Rattle.peg_lexer.proofs.scan_literals.chars_before.Given as goal

abbrev pub invariant-chars : goal.invariant-chars
invariant-chars l = Passed (quoted_char l.quote) l.rest l.at

abbrev pub decreases-chars : goal.decreases-chars
decreases-chars l = length l.rest - l.at
