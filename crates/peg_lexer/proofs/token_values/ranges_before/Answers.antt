use Rattle.std.proofs.Common.{◌+◌, map, option_map, refl, sym, ap, ◌∙◌, subst}
use Rattle.std.proofs.lemmas.List.{map_push}
use Rattle.peg_lexer.specs.Lexical.{classed_range}
use Rattle.peg_lexer.specs.LexicalCode.{range_piece}
use Rattle.peg_metagrammar.specs.RangesCode.{range_of}
use Rattle.peg_metagrammar.specs.Denotation.{ranges_in}
use Rattle.peg_lexer.proofs.TokenValues.{Spelled, ranges-one, spelled-all}
use Rattle.peg_lexer.proofs.token_values.ranges_before.Goals as goal

pub items-preserved : goal.items-preserved
items-preserved c =
    let at = c.items.at + c.in-Some.item.length in
    subst (Spelled ranges_in classed_range c.args.rest.now at)
    (sym (ap (map range_of) c.in_ok-push.ensures.items ∙ map_push range_of c.items.ranges.items c.in-Some.item.bytes))
    (ranges-one classed_range c.args.rest.now c.items.at c.in-Some.item (map range_of c.items.ranges.items) c.items.invariant
    c.in-Some.ensures.value c.in-Some.ensures.some c.in-Some.ensures.fits)

pub returns : goal.returns
returns c =
    spelled-all ranges_in refl classed_range c.args.rest.now c.items.at (map range_of c.items.ranges.items) c.items.invariant
    (sym (ap (option_map range_piece) c.in_default.is) ∙ c.classed_range.ensures.value)
