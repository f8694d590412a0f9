use Rattle.std.proofs.Common.{◌∙◌}
use Rattle.peg_lexer.specs.Lexical.{is_quote, up_to_quote, quoted}
use Rattle.peg_lexer.specs.Matchers.{satisfy}
use Rattle.peg_lexer.proofs.PieceLemmas.{seq_matcher-stops, seq_matcher-goes}
use Rattle.peg_lexer.proofs.scan_literals.quoted.Goals as goal

pub returns-in_err-inside-clause-value : goal.returns-in_err-inside-clause-value
unfolding quoted
returns-in_err-inside-clause-value c =
    c.from_residual-in_err-inside.ensures ∙ seq_matcher-stops (satisfy (is_quote c.args.quote))
    (up_to_quote c.args.quote) c.args.rest.now c.in_ok-open.open c.in_ok-open.ensures.value c.in_err-inside.ensures.value

pub returns-clause-value : goal.returns-clause-value
unfolding quoted
returns-clause-value c =
    seq_matcher-goes (satisfy (is_quote c.args.quote))
    (up_to_quote c.args.quote) c.args.rest.now c.in_ok-open.open c.in_ok-inside.inside c.in_ok-open.ensures.value c.in_ok-inside.ensures.value
