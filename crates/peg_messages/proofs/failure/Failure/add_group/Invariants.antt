use Rattle.std.proofs.Common.{ℕ, ◌≤◌, ◌+◌, ◌++◌, List, drop}
use Rattle.peg_messages.specs.Failures.{group_texts}
use Rattle.peg_messages.specs.Listings.{IsListing, bytes_of_each}
use Rattle.peg_messages.proofs.failure.Failure.add_group.Given as goal

-- what is still to be listed: the items of the group from here on, and the rest
abbrev pub invariant-items : goal.invariant-items
invariant-items l = record {
  listing : (rest all : List (List ℕ))
      → IsListing (bytes_of_each l.initial.listing.kept.items) l.initial.listing.others
      (group_texts l.group l.self.grammar.now l.self.expected.now ++ rest) all
      → IsListing (bytes_of_each l.listing.kept.items) l.listing.others
      (group_texts l.group l.self.grammar.now (drop l.item-index l.self.expected.now) ++ rest) all;
  few : l.listing.others ≤ l.initial.listing.others + l.item-index;
}
