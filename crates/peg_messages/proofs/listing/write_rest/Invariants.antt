use Rattle.std.proofs.Common.{◌≡◌, ◌++◌, length}
use Rattle.peg_messages.specs.Listing.{joined_rest}
use Rattle.peg_messages.specs.Listings.{bytes_of_each}
use Rattle.peg_messages.proofs.listing.write_rest.Given as goal

abbrev pub invariant-texts : goal.invariant-texts
invariant-texts l =
    l.out.items ++ joined_rest (bytes_of_each l.rest) ≡ l.initial.out.items ++ joined_rest (bytes_of_each l.texts)

abbrev pub decreases-texts : goal.decreases-texts
decreases-texts l = length l.rest
