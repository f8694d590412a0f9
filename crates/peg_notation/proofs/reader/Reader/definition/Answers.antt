use Rattle.peg_notation.specs.ReaderFile.{file_of}
use Rattle.peg_notation.proofs.ReaderSteps.{front_lies}
use Rattle.peg_notation.proofs.reader.Reader.definition.Goals as goal

pub definition_body-requires-clause-inside : goal.definition_body-requires-clause-inside
definition_body-requires-clause-inside c =
    front_lies (file_of c.args.self.now) 0 c.args.tokens.now c.name-item.result c.in-len1-up.len_at_least c.name-item.is c.requires
