use Rattle.std.proofs.Common.{false, refl}
use Rattle.peg_bytes.proofs.ByteSetLemmas.{flag_of-zeros, has-from_flags}
use Rattle.peg_bytes.proofs.byte_set.ByteSet.empty.Goals as goal

pub returns : goal.returns
returns c = λ other. has-from_flags _ other false (flag_of-zeros other) (λ _. refl)
