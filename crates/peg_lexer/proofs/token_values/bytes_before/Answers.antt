use Rattle.std.proofs.Common.{◌+◌, option_map, refl, sym, ap, ◌∙◌, subst}
use Rattle.peg_lexer.specs.Lexical.{quoted_char}
use Rattle.peg_lexer.specs.LexicalCode.{char_piece}
use Rattle.peg_metagrammar.specs.Denotation.{bytes_in}
use Rattle.peg_lexer.proofs.TokenValues.{Spelled, bytes-one, spelled-all}
use Rattle.peg_lexer.proofs.token_values.bytes_before.Goals as goal

pub chars-preserved : goal.chars-preserved
chars-preserved c =
    let find = quoted_char c.args.quote in
    let at = c.chars.at + c.in-Some.char.length in
    subst (Spelled bytes_in find c.args.rest.now at) (sym c.in_ok-push.ensures.items)
    (bytes-one find c.args.rest.now c.chars.at c.in-Some.char c.chars.bytes.items c.chars.invariant c.in-Some.ensures.value
    c.in-Some.ensures.some c.in-Some.ensures.fits)

pub returns : goal.returns
returns c =
    spelled-all bytes_in refl (quoted_char c.args.quote) c.args.rest.now c.chars.at c.chars.bytes.items c.chars.invariant
    (sym (ap (option_map char_piece) c.in_default.is) ∙ c.quoted_char.ensures.value)
