use Rattle.std.proofs.Common.{◌≡◌, ◌==◌, ◌||◌, ◌<◌, false, length, arith, sym, ◌∙◌, ap}
use Rattle.std.proofs.lemmas.Bool.Decides.{nat_tests}
use Rattle.peg_bytes.specs.ByteSet.{bytes_of, has}
use Rattle.peg_bytes.proofs.ByteSetLemmas.{flag_of-set, has-bytes_of, has-from_flags, has-past}
use Rattle.peg_bytes.proofs.byte_set.ByteSet.insert.Goals as goal

pub returns : goal.returns
returns c = λ other.
    let old = c.args.self.now in
    let byte = c.args.byte in
    let within : c.from.result < length old.words = omega arith in
    has-from_flags _ other ((other == byte) || has (bytes_of old) other)
    (λ h. flag_of-set old.words byte c.from.result c.from.ensures within other
    ∙ ap (λ x. (other == byte) || x) (sym (has-bytes_of old other h)))
    (λ h. ap (λ x. (other == byte) || x) (has-past old other h)
    ∙ (let differs : (other == byte) ≡ false = grind (arith, nat_tests) in ap (λ x. x || false) differs))
