use Rattle.std.proofs.Common.{◌<◌, ◌^◌, false, arith, refl, sym, ◌∙◌}
use Rattle.std.proofs.lemmas.Bool.{eqb-true, eq-eqb}
use Rattle.peg_bytes.specs.AllFlags.{all_flags}
use Rattle.peg_bytes.proofs.ByteSetLemmas.{all_flags-none, flag_of-none, has-bytes_of, has-from_flags}
use Rattle.peg_bytes.proofs.byte_set.ByteSet.is_empty.Goals as goal

pub returns : goal.returns
returns c =
    let set = c.args.self.now in
    let fits : all_flags set.words < 2 ^ 64 = omega (arith, c.all_flags.type_inv) in (
      λ empty byte. has-from_flags set byte false
          (flag_of-none set.words (sym c.all_flags.ensures ∙ eqb-true c.all_flags.result 0 empty) byte) (λ _. refl),
      λ none. eq-eqb c.all_flags.result 0
          (c.all_flags.ensures ∙ all_flags-none set.words fits (λ byte h. sym (has-bytes_of set byte h) ∙ none byte)),
    )
