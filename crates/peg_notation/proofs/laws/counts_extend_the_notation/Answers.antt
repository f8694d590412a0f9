use Rattle.peg_notation.proofs.EscapedNesting.{nests-now}
use Rattle.peg_notation.proofs.EscapedRules.{escaped-kept, escaped-reading}
use Rattle.peg_notation.proofs.laws.counts_extend_the_notation.Goals as goal

pub returns : goal.returns
returns c = record { tree = escaped-kept; nesting = λ file end trees matches. nests-now trees; reading = escaped-reading }
