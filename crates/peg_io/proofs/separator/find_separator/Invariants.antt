-- No separator starts before the current offset.
use Rattle.peg_io.specs.Split.{NoneBefore}
use Rattle.peg_io.proofs.separator.find_separator.Given as goal

abbrev pub invariant-loop-position : goal.invariant-loop-position
invariant-loop-position l = NoneBefore l.input l.position
