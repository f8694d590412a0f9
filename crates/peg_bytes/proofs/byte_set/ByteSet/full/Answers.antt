use Rattle.std.proofs.Common.{nat_lt, sym, ◌∙◌}
use Rattle.std.proofs.lemmas.Bool.{lt-ltb, le-ltb}
use Rattle.peg_bytes.proofs.ByteSetLemmas.{flag_of-ones, has-from_flags}
use Rattle.peg_bytes.proofs.byte_set.ByteSet.full.Goals as goal

pub returns : goal.returns
returns c = λ other.
    has-from_flags _ other (nat_lt other 256) (λ h. flag_of-ones other h ∙ sym (lt-ltb other 256 h))
    (λ h. le-ltb other 256 h)
