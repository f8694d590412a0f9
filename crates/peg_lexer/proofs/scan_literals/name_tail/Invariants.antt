use Rattle.std.proofs.Common.{◌-◌, length}
use Rattle.peg_lexer.specs.Lexical.{in_name}
use Rattle.peg_lexer.proofs.PieceLemmas.{Passed}
use Rattle.peg_lexer.proofs.scan_literals.name_tail.Given as goal

abbrev pub invariant-bytes : goal.invariant-bytes
invariant-bytes l = Passed in_name l.rest l.at

abbrev pub decreases-bytes : goal.decreases-bytes
decreases-bytes l = length l.rest - l.at
