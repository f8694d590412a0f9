use Rattle.peg_notation.proofs.EscapedNesting.{nests-now}
use Rattle.peg_notation.proofs.PrintedRules.{printed-kept, printed-reading}
use Rattle.peg_notation.proofs.PrintedSpelling.{printed-spelling}
use Rattle.peg_notation.proofs.laws.extensions_preserve_fords_notation.Goals as goal

pub returns : goal.returns
returns c = record { tree = printed-kept; spelling = printed-spelling; nesting = λ file end trees matches. nests-now trees; reading = printed-reading }
