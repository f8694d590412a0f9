use Rattle.peg_notation.specs.ReaderFile.{file_of}
use Rattle.peg_notation.proofs.ReaderSteps.{front_lies}
use Rattle.peg_notation.proofs.reader.Reader.then_suffix.Goals as goal

pub with_suffix-requires-clause-inside : goal.with_suffix-requires-clause-inside
with_suffix-requires-clause-inside c =
    front_lies (file_of c.args.self.now) c.args.part.last c.args.rest.now c.sign-item.result c.in-len1-up.len_at_least
    c.sign-item.is c.requires.texts
