use Rattle.std.proofs.Common.{◌-◌, length}
use Rattle.peg_lexer.specs.Lexical.{space_or_comment}
use Rattle.peg_lexer.proofs.PieceLemmas.{Passed}
use Rattle.peg_lexer.proofs.spacing.spacing.Given as goal

abbrev pub invariant-blanks : goal.invariant-blanks
invariant-blanks l = Passed space_or_comment l.rest l.at

abbrev pub decreases-blanks : goal.decreases-blanks
decreases-blanks l = length l.rest - l.at
