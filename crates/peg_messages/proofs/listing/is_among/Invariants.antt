use Rattle.std.proofs.Common.{◌≡◌, drop}
use Rattle.peg_messages.specs.Listing.{is_among}
use Rattle.peg_messages.specs.Listings.{bytes_of_each}
use Rattle.peg_messages.proofs.listing.is_among.Given as goal

abbrev pub invariant-texts : goal.invariant-texts
invariant-texts l =
    is_among (bytes_of_each (drop l.other-index l.texts)) l.text ≡ is_among (bytes_of_each l.texts) l.text
