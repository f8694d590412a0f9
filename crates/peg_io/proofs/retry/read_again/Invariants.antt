-- No interrupted read has consumed a byte.
use Rattle.std.specs.Io.KnownBytes.{Keeps}
use Rattle.peg_io.proofs.retry.read_again.Given as goal

abbrev pub invariant-tries : goal.invariant-tries
invariant-tries g l = Keeps (g.D.Read.remaining l.initial.inner) (g.D.Read.remaining l.inner)
