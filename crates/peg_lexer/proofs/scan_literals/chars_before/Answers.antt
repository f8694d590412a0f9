use Rattle.std.proofs.Common.{ap, sym, ◌∙◌, option_map}
use Rattle.peg_lexer.specs.Lexical.{quoted_char}
use Rattle.peg_lexer.specs.LexicalCode.{char_piece}
use Rattle.peg_lexer.specs.Matchers.{match_length}
use Rattle.peg_lexer.proofs.PieceLemmas.{Passed-one, Passed-all}
use Rattle.peg_lexer.proofs.scan_literals.chars_before.Goals as goal

pub chars-preserved : goal.chars-preserved
chars-preserved c =
    Passed-one
    (quoted_char c.args.quote) c.args.rest.now c.chars.at c.in-Some.char.length c.chars.invariant
    (ap match_length c.in-Some.ensures.value) c.in-Some.ensures.some c.in-Some.ensures.fits

pub returns-clause-value : goal.returns-clause-value
returns-clause-value c = Passed-all (quoted_char c.args.quote) c.args.rest.now c.chars.at c.chars.invariant
    (ap match_length (sym (ap (option_map char_piece) c.in_default.is) ∙ c.quoted_char.ensures.value))
