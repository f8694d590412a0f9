use Rattle.std.proofs.Common.{◌≡◌, length}
use Rattle.peg_messages.specs.SyntaxCauses.{has_arrow}
use Rattle.peg_messages.proofs.syntax.has_arrow.Given as goal

abbrev pub invariant-bytes : goal.invariant-bytes
invariant-bytes l = has_arrow l.rest ≡ has_arrow l.bytes

abbrev pub decreases-bytes : goal.decreases-bytes
decreases-bytes l = length l.rest
