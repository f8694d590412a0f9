use Rattle.std.proofs.Common.{ap, ◌∙◌, subst}
use Rattle.peg_bytes.specs.Extent.{extent}
use Rattle.peg_semantics.specs.Form.{Literal}
use Rattle.peg_notation.specs.Reader.{one_token}
use Rattle.peg_notation.specs.ReaderCode.{Agrees, form_seen}
use Rattle.peg_notation.specs.ReaderFile.{file_of}
use Rattle.peg_metagrammar.specs.Denotation.{bytes_in}
use Rattle.peg_lexer.specs.Tokens.{lexeme_of}
use Rattle.peg_notation.proofs.TokenTexts.{literal-here, literal-pieces}
use Rattle.peg_notation.proofs.reader.Reader.literal.Goals as goal

pub literal_bytes-requires : goal.literal_bytes-requires
literal_bytes-requires c = literal-here (file_of c.args.self.now) (lexeme_of c.args.token) c.requires.text c.requires.literal

pub returns : goal.returns
returns c =
    let pieces = literal-pieces (file_of c.args.self.now) (lexeme_of c.args.token) c.requires.literal in
    let same = c.literal_of.ensures
    ∙ ap (λ bytes. Literal bytes (extent c.args.token.span)) (c.in_ok-bytes.ensures ∙ ap bytes_in pieces) in
    subst (λ f. Agrees form_seen (one_token f (lexeme_of c.args.token)) c.one_token.result) same c.one_token.ensures
