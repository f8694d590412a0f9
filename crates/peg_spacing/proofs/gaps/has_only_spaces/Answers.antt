use Rattle.std.proofs.Common.{◌≡◌, ◌∙◌, ◌||◌, ℕ, Bool, ap, arith, not, sym}
use Rattle.peg_bytes.specs.ByteSet.{bytes_of, has}
use Rattle.peg_spacing.specs.Gaps.{all_below, has_only, is_space}
use Rattle.peg_spacing.proofs.GapLemmas.{below-fails, below-more}
use Rattle.peg_spacing.proofs.gaps.has_only_spaces.Goals as goal

pub bytes-preserved : goal.bytes-preserved
bytes-preserved c =
    let test : ℕ → Bool = λ byte. not (has (bytes_of c.args.set.now) byte) || is_space byte in
    below-more test c.bytes.byte c.bytes.invariant (sym c.may_be_space.ensures ∙ c.if-not-may_be_space.false)

pub returns-then-not-may_be_space : goal.returns-then-not-may_be_space
unfolding has_only
returns-then-not-may_be_space c =
    let test : ℕ → Bool = λ byte. not (has (bytes_of c.args.set.now) byte) || is_space byte in
    sym (below-fails test 256 c.bytes.byte (omega arith) (sym c.may_be_space.ensures ∙ c.if-not-may_be_space.true))

pub returns : goal.returns
unfolding has_only
returns c =
    let test : ℕ → Bool = λ byte. not (has (bytes_of c.args.set.now) byte) || is_space byte in
    let all : c.bytes.byte ≡ 256 = omega arith in
    sym (sym (ap (all_below test) all) ∙ c.bytes.invariant)
