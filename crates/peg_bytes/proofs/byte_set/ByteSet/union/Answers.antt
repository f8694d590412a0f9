use Rattle.std.proofs.Common.{◌||◌, sym, ◌∙◌, ap}
use Rattle.peg_bytes.specs.ByteSet.{bytes_of, flag_of, has}
use Rattle.peg_bytes.proofs.ByteSetLemmas.{flag_of-joined, has-bytes_of, has-from_flags, has-past}
use Rattle.peg_bytes.proofs.byte_set.ByteSet.union.Goals as goal

pub returns : goal.returns
returns c = λ byte.
    let a = c.args.self.now in
    let b = c.args.other.now in
    has-from_flags _ byte (has (bytes_of a) byte || has (bytes_of b) byte)
    (λ h. flag_of-joined a.words b.words byte h
    ∙ ap (λ x. x || flag_of b.words byte) (sym (has-bytes_of a byte h))
    ∙ ap (λ x. has (bytes_of a) byte || x) (sym (has-bytes_of b byte h)))
    (λ h. ap (λ x. x || has (bytes_of b) byte) (has-past a byte h) ∙ has-past b byte h)
