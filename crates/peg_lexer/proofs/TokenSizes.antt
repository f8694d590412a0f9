-- A token that is a Primary, or that opens one, has at least one byte.
use Rattle.std.proofs.Common.{ℕ, codes, lit<}
use Rattle.peg_lexer.specs.Lexical.{identifier, begins_name, in_name, literal, quoted, is_quote, up_to_quote, class, classed_range}
use Rattle.peg_lexer.specs.Matchers.{literal_bytes, seq_matcher, star}
use Rattle.peg_lexer.proofs.PieceSizes.{HasBytes, has-literal_bytes, has-one, has-first, has-or_matcher}

pub identifier-some : HasBytes identifier
unfolding identifier
identifier-some = has-first (star in_name) (has-one begins_name)

quoted-some : (quote : ℕ) → HasBytes (quoted quote)
unfolding quoted
quoted-some quote = has-first (up_to_quote quote) (has-one (is_quote quote))

pub literal-some : HasBytes literal
unfolding literal
literal-some = has-or_matcher (quoted-some 39) (quoted-some 34)

pub class-some : HasBytes class
unfolding class
class-some =
    has-first (seq_matcher (star classed_range) (literal_bytes (codes "]"))) (has-literal_bytes (codes "[") (lit< tt))

pub dot-some : HasBytes (literal_bytes (codes "."))
dot-some = has-literal_bytes (codes ".") (lit< tt)

pub open-some : HasBytes (literal_bytes (codes "("))
open-some = has-literal_bytes (codes "(") (lit< tt)
