use Rattle.std.proofs.Common.{ℕ, ◌++◌, [], append-nil, arith, subst, sym}
use Rattle.std.specs.declared.vec.Vec.{Vec}
use Rattle.std.specs.declared.alloc.Global.{Global}
use Rattle.std.proofs.lemmas.List.{length-map}
use Rattle.peg_messages.specs.Failures.{expected_texts, group_texts}
use Rattle.peg_messages.specs.Listings.{IsListing, bytes_of_each}
use Rattle.peg_messages.specs.declared.items.ItemGroup.TheVariants.{End, Other, Plain}
use Rattle.peg_messages.proofs.ListingLemmas.{IsListed-end}
use Rattle.peg_messages.proofs.failure.Failure.listing.Goals as goal

pub returns : goal.returns
returns c =
    let failure = c.args.self.now in
    let all = expected_texts failure in
    let ends = group_texts End failure.grammar.now failure.expected.now in
    let plain = group_texts Plain failure.grammar.now failure.expected.now in
    let others = group_texts Other failure.grammar.now failure.expected.now in
    let last = c.add_group-3.new.listing in
    let start = c.in_ok-add_end.ensures.listing (ends ++ (plain ++ others)) all (c.new-listing.ensures.listing all) in
    let first = c.in_ok-add_group.ensures.listing (plain ++ others) all start in
    let second = c.in_ok-add_group-2.ensures.listing others all first in
    let third = c.in_ok-add_group-3.ensures.listing [] all
    (subst (λ texts. IsListing (bytes_of_each c.add_group-2.new.listing.kept.items) c.add_group-2.new.listing.others
    texts all) (sym (append-nil others)) second) in
    IsListed-end last all third
    (omega (
      arith,
      c.new-listing.ensures.none,
      c.in_ok-add_end.ensures.others,
      c.in_ok-add_group.ensures.others,
      c.in_ok-add_group-2.ensures.others,
      c.in_ok-add_group-3.ensures.others,
      c.requires,
    ))
    (omega (arith, third.few, length-map last.kept.items (λ (text : Vec ℕ Global). text.items)))
