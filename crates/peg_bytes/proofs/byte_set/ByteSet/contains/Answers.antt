use Rattle.std.proofs.Common.{◌==◌, ◌<◌, ◌%◌, arith, get_or, sym, ◌∙◌, ap}
use Rattle.std.specs.Int.{bit_at}
use Rattle.std.proofs.lemmas.Nat.Bits.{shr_and_one}
use Rattle.peg_bytes.proofs.ByteSetLemmas.{has-bytes_of}
use Rattle.peg_bytes.proofs.byte_set.ByteSet.contains.Goals as goal

pub returns : goal.returns
returns c =
    let set = c.args.self.now in
    let byte = c.args.byte in
    let within : byte < 256 = omega arith in
    ap (λ bit. bit == 1) (shr_and_one (get_or set.words c.from.result 0) (byte % 64))
    ∙ ap (λ at. bit_at (get_or set.words at 0) (byte % 64) == 1) c.from.ensures
    ∙ sym (has-bytes_of set byte within)
