-- Describes code: the file that a `Reader` reads.
use Rattle.std.specs.Prelude.{ℕ, List}
use Rattle.peg_notation.specs.declared.reader.Reader.{Reader}

abbrev pub file_of : Reader → List ℕ
file_of reader = reader.file.now
