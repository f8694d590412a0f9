use Rattle.std.proofs.Common.{◌≡◌, length}
use Rattle.peg_messages.specs.Blanks.{after_blanks, after_blanks_from}
use Rattle.peg_messages.proofs.blanks.after_blanks.Given as goal

abbrev pub invariant-blanks : goal.invariant-blanks
invariant-blanks l = after_blanks_from l.in_comment l.rest ≡ after_blanks l.bytes

abbrev pub decreases-blanks : goal.decreases-blanks
decreases-blanks l = length l.rest
