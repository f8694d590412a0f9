use Rattle.std.proofs.Common.{◌≡◌, ◌++◌, length}
use Rattle.peg_messages.specs.Shown.{shown}
use Rattle.peg_messages.proofs.shown.write_shown.Given as goal

abbrev pub invariant-characters : goal.invariant-characters
invariant-characters l = l.out.items ++ shown l.style l.rest ≡ l.initial.out.items ++ shown l.style l.bytes

abbrev pub decreases-characters : goal.decreases-characters
decreases-characters l = length l.rest
