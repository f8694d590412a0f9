use Rattle.std.proofs.Common.{[], ◌∷◌, ◌++◌, sym, ap, ◌∙◌, subst}
use Rattle.peg_messages.specs.Ends.{end_texts}
use Rattle.peg_messages.specs.Listings.{IsListing, bytes_of_each}
use Rattle.peg_messages.proofs.failure.add_end.Goals as goal

pub returns-in_ok-add-clause-listing : goal.returns-in_ok-add-clause-listing
returns-in_ok-add-clause-listing c = λ rest all so.
    let old = c.args.listing.now in
    c.in_ok-add.ensures.listing rest all
    (subst (λ texts. IsListing (bytes_of_each old.kept.items) old.others (texts ++ rest) all)
    (ap end_texts c.if-is_expected.true ∙ ap (λ text. text ∷ []) (sym c.in_ok-from_slice.ensures.items)) so)
