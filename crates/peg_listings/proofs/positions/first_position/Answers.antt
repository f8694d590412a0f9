use Rattle.std.proofs.Common.{ap, arith, length, sym}
use Rattle.peg_bytes.specs.Place.{last_or}
use Rattle.peg_listings.proofs.PositionLemmas.{no_ends}
use Rattle.peg_listings.proofs.positions.first_position.Goals as goal

pub returns-clause-position : goal.returns-clause-position
returns-clause-position c file = record {
  line = omega (arith, ap length (no_ends file));
  start = sym (ap (last_or 0) (no_ends file));
  before = omega arith;
  few = omega arith;
}
