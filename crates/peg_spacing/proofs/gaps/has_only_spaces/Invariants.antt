use Rattle.std.proofs.Common.{◌≡◌, ◌||◌, true, not}
use Rattle.peg_bytes.specs.ByteSet.{bytes_of, has}
use Rattle.peg_spacing.specs.Gaps.{all_below, is_space}
use Rattle.peg_spacing.proofs.gaps.has_only_spaces.Given as goal

-- the bytes so far that the set has are spaces
abbrev pub invariant-bytes : goal.invariant-bytes
invariant-bytes l = all_below (λ byte. not (has (bytes_of l.set) byte) || is_space byte) l.byte ≡ true
