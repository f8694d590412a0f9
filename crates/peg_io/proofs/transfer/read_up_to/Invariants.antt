-- The bytes read so far are those consumed, they are within the limit, and no read has failed.
use Rattle.std.proofs.Common.{◌≡◌, ◌<◌, ◌≤◌, ◌-◌, true, false, vec_len, length}
use Rattle.std.specs.Io.KnownBytes.{Consumes}
use Rattle.peg_io.proofs.transfer.read_up_to.Given as goal

abbrev pub invariant-reads : goal.invariant-reads
invariant-reads g l = record {
  within : vec_len l.held ≤ l.limit;
  has_room : 0 < length l.piece;
  consumed : Consumes (g.G.Source.left l.initial.input) (g.G.Source.left l.input) l.held.items;
  not_failed : g.G.Source.failed l.input ≡ false;
  never : g.G.Source.never_fails l.initial.input ≡ true → g.G.Source.never_fails l.input ≡ true;
}

abbrev pub decreases-reads : goal.decreases-reads
decreases-reads g l = l.limit - vec_len l.held
