-- No interrupted write has appended a byte.
use Rattle.std.specs.Io.KnownBytes.{Keeps}
use Rattle.peg_io.proofs.retry.write_again.Given as goal

abbrev pub invariant-tries : goal.invariant-tries
invariant-tries g l = Keeps (g.D.Write.contents l.initial.inner) (g.D.Write.contents l.inner)
