use Rattle.peg_notation.specs.ReaderFile.{file_of}
use Rattle.peg_lexer.specs.Tokens.{lexeme_of}
use Rattle.peg_notation.proofs.TokenTexts.{name-here}
use Rattle.peg_notation.proofs.reader.Reader.name.Goals as goal

pub name_text-requires : goal.name_text-requires
name_text-requires c = name-here (file_of c.args.self.now) (lexeme_of c.args.token) c.requires.text c.requires.ident
