use Rattle.std.proofs.Common.{◌≡◌, ◌<◌, ◌≤◌, false, length, sym, ap, ◌∙◌, subst, arith}
use Rattle.std.proofs.lemmas.List.{length-map, map_push}
use Rattle.peg_messages.specs.Listing.{is_among}
use Rattle.peg_messages.specs.Listings.{IsListing, bytes_of_each}
use Rattle.peg_messages.proofs.ListingLemmas.{IsListing-kept, IsListing-left_out}
use Rattle.peg_messages.proofs.listing.Listing.add.Goals as goal

pub returns-in_ok-push-clause-listing : goal.returns-in_ok-push-clause-listing
returns-in_ok-push-clause-listing c = λ rest all so.
    let kept = c.args.self.now.kept in
    let texts = bytes_of_each kept.items in
    let text = c.args.text.items in
    let new : is_among texts text ≡ false =
    ap (λ l. is_among (bytes_of_each l) text) (sym c.deref.ensures.value)
    ∙ (ap (λ l. is_among (bytes_of_each c.deref.result.now) l) (sym c.deref-2.ensures.value)
    ∙ (sym c.is_among.ensures ∙ c.if-is_among.false)) in
    let room : length texts < 64 = omega (arith, length-map kept.items (λ t. t.items), kept.ok.0) in
    let after = ap bytes_of_each c.in_ok-push.ensures.items ∙ map_push (λ t. t.items) kept.items c.args.text in
    subst (λ l. IsListing l c.args.self.now.others rest all) (sym after)
    (IsListing-kept texts rest all c.args.self.now.others text new room so)

pub returns-else-len-lt-MAX_KEPT-clause-listing : goal.returns-else-len-lt-MAX_KEPT-clause-listing
returns-else-len-lt-MAX_KEPT-clause-listing c = λ rest all so.
    let kept = c.args.self.now.kept in
    let texts = bytes_of_each kept.items in
    let text = c.args.text.items in
    let new : is_among texts text ≡ false =
    ap (λ l. is_among (bytes_of_each l) text) (sym c.deref.ensures.value)
    ∙ (ap (λ l. is_among (bytes_of_each c.deref.result.now) l) (sym c.deref-2.ensures.value)
    ∙ (sym c.is_among.ensures ∙ c.if-is_among.false)) in
    let full : 64 ≤ length texts = omega (arith, length-map kept.items (λ t. t.items), kept.ok.0) in
    IsListing-left_out texts rest all c.args.self.now.others text new full so
