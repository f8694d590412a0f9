use Rattle.std.proofs.Common.{ap, sym, ◌∙◌, option_map}
use Rattle.peg_lexer.specs.Lexical.{classed_range}
use Rattle.peg_lexer.specs.LexicalCode.{range_piece}
use Rattle.peg_lexer.specs.Matchers.{match_length}
use Rattle.peg_lexer.proofs.PieceLemmas.{Passed-one, Passed-all}
use Rattle.peg_lexer.proofs.scan_literals.ranges_before_bracket.Goals as goal

pub items-preserved : goal.items-preserved
items-preserved c =
    Passed-one classed_range c.args.rest.now c.items.at c.in-Some.item.length c.items.invariant
    (ap match_length c.in-Some.ensures.value) c.in-Some.ensures.some c.in-Some.ensures.fits

pub returns-clause-value : goal.returns-clause-value
returns-clause-value c = Passed-all classed_range c.args.rest.now c.items.at c.items.invariant
    (ap match_length (sym (ap (option_map range_piece) c.in_default.is) ∙ c.classed_range.ensures.value))
