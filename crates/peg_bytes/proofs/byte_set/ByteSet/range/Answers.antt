use Rattle.std.proofs.Common.{arith, ◌∙◌}
use Rattle.peg_bytes.proofs.ByteSetLemmas.{up_to_last}
use Rattle.peg_bytes.proofs.byte_set.ByteSet.range.Goals as goal

pub returns : goal.returns
returns c = λ other.
    c.loop-byte.invariant.0 other
    ∙ up_to_last c.args.low c.args.high c.loop-byte.byte other (omega arith) (λ h. omega arith) (λ h. omega arith)
