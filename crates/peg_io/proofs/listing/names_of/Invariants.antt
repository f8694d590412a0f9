use Rattle.peg_io.specs.Listing.{AreNamesOf}
use Rattle.peg_io.proofs.listing.names_of.Given as goal

-- the entries so far were read, and these are their names
abbrev pub invariant-entries : goal.invariant-entries
invariant-entries g l = AreNamesOf l.yielded l.names.items
