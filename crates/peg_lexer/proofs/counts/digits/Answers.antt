use Rattle.std.proofs.Common.{sym, ◌∙◌}
use Rattle.peg_lexer.specs.Lexical.{digit}
use Rattle.peg_lexer.proofs.PieceLemmas.{Passed-one, Passed-all}
use Rattle.peg_lexer.proofs.counts.digits.Goals as goal

pub digits-preserved : goal.digits-preserved
digits-preserved c =
    Passed-one digit c.args.rest.now c.digits.at c.in-Some.length c.digits.invariant c.in-Some.ensures.value c.in-Some.ensures.some c.in-Some.ensures.fits

pub returns-clause-value : goal.returns-clause-value
returns-clause-value c = Passed-all digit c.args.rest.now c.digits.at c.digits.invariant
    (sym c.in_default.is ∙ c.digit_at.ensures.value)
