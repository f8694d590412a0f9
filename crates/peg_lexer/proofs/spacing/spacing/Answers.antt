use Rattle.std.proofs.Common.{sym, ◌∙◌}
use Rattle.peg_lexer.specs.Lexical.{space_or_comment, spacing}
use Rattle.peg_lexer.proofs.PieceLemmas.{Passed-one, Passed-all}
use Rattle.peg_lexer.proofs.spacing.spacing.Goals as goal

pub blanks-preserved : goal.blanks-preserved
blanks-preserved c =
    Passed-one space_or_comment c.args.rest.now c.blanks.at c.in-Some.length c.blanks.invariant c.in-Some.ensures.value c.in-Some.ensures.some c.in-Some.ensures.fits

pub returns-clause-value : goal.returns-clause-value
unfolding spacing
returns-clause-value c = Passed-all space_or_comment c.args.rest.now c.blanks.at c.blanks.invariant
    (sym c.in_default.is ∙ c.space_or_comment.ensures.value)
