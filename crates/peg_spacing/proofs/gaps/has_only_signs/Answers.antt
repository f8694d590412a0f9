use Rattle.std.proofs.Common.{◌≡◌, ◌∙◌, ◌||◌, ℕ, Bool, ap, arith, not, sym}
use Rattle.peg_bytes.specs.ByteSet.{bytes_of, has}
use Rattle.peg_spacing.specs.Gaps.{all_below, has_only, is_sign}
use Rattle.peg_spacing.proofs.GapLemmas.{below-fails, below-more}
use Rattle.peg_spacing.proofs.gaps.has_only_signs.Goals as goal

pub bytes-preserved : goal.bytes-preserved
bytes-preserved c =
    let test : ℕ → Bool = λ byte. not (has (bytes_of c.args.set.now) byte) || is_sign byte in
    below-more test c.bytes.byte c.bytes.invariant (sym c.may_be_sign.ensures ∙ c.if-not-may_be_sign.false)

pub returns-then-not-may_be_sign : goal.returns-then-not-may_be_sign
unfolding has_only
returns-then-not-may_be_sign c =
    let test : ℕ → Bool = λ byte. not (has (bytes_of c.args.set.now) byte) || is_sign byte in
    sym (below-fails test 256 c.bytes.byte (omega arith) (sym c.may_be_sign.ensures ∙ c.if-not-may_be_sign.true))

pub returns : goal.returns
unfolding has_only
returns c =
    let test : ℕ → Bool = λ byte. not (has (bytes_of c.args.set.now) byte) || is_sign byte in
    let all : c.bytes.byte ≡ 256 = omega arith in
    sym (sym (ap (all_below test) all) ∙ c.bytes.invariant)
