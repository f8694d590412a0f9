use Rattle.std.proofs.Common.{◌-◌, length}
use Rattle.peg_lexer.specs.Lexical.{quoted_char}
use Rattle.peg_metagrammar.specs.Denotation.{bytes_in}
use Rattle.peg_lexer.proofs.TokenValues.{Spelled}
use Rattle.peg_lexer.proofs.token_values.bytes_before.Given as goal

abbrev pub invariant-chars : goal.invariant-chars
invariant-chars l = Spelled bytes_in (quoted_char l.quote) l.rest l.at l.bytes.items

abbrev pub decreases-chars : goal.decreases-chars
decreases-chars l = length l.rest - l.at
