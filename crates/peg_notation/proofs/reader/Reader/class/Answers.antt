use Rattle.std.proofs.Common.{ap, ◌∙◌, subst}
use Rattle.peg_bytes.specs.Extent.{extent}
use Rattle.peg_semantics.specs.Form.{Class}
use Rattle.peg_metagrammar.specs.Ranges.{class_of}
use Rattle.peg_notation.specs.Reader.{one_token}
use Rattle.peg_notation.specs.ReaderCode.{Agrees, form_seen}
use Rattle.peg_notation.specs.ReaderFile.{file_of}
use Rattle.peg_metagrammar.specs.Denotation.{ranges_in}
use Rattle.peg_lexer.specs.Tokens.{lexeme_of}
use Rattle.peg_notation.proofs.TokenTexts.{class-here, class-pieces}
use Rattle.peg_notation.proofs.reader.Reader.class.Goals as goal

pub class_of_token-requires : goal.class_of_token-requires
class_of_token-requires c = class-here (file_of c.args.self.now) (lexeme_of c.args.token) c.requires.text c.requires.class

pub returns : goal.returns
returns c =
    let pieces = class-pieces (file_of c.args.self.now) (lexeme_of c.args.token) c.requires.class in
    let same = c.class_of.ensures
    ∙ ap (λ set. Class set (extent c.args.token.span)) (c.in_ok-set.ensures ∙ ap (λ l. class_of (ranges_in l)) pieces) in
    subst (λ f. Agrees form_seen (one_token f (lexeme_of c.args.token)) c.one_token.result) same c.one_token.ensures
