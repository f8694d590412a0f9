use Rattle.std.proofs.Common.{Bool, ◌∷◌, ◌++◌, ◌+◌, arith, ap, subst, sym, ◌∙◌}
use Rattle.peg_messages.specs.Items.{is_in_group, item_text}
use Rattle.peg_messages.specs.Listings.{IsListing, bytes_of_each}
use Rattle.peg_messages.specs.declared.items.Item.{Item}
use Rattle.peg_messages.specs.declared.listing.Listing.{Listing}
use Rattle.peg_messages.proofs.FilteredTexts.{text-left_out, text-next, texts_from}
use Rattle.peg_messages.proofs.failure.Failure.add_group.Goals as goal
use Rattle.peg_messages.proofs.failure.Failure.add_group.Goals.{then-is_in_group+in_ok-item_text+in_ok-add}
use Rattle.peg_messages.proofs.failure.Failure.add_group.Goals.{else-is_in_group}

pub items-preserved : goal.items-preserved
items-preserved c =
    let failure = c.args.self.now in
    let test : Item → Bool = is_in_group failure.grammar.now c.args.group in
    let text = item_text failure.grammar.now in
    let items = failure.expected.now in
    let at = c.items.item-index in
    let item = c.item-item.result in
    let old = c.items.listing in
    elim c.if-is_in_group.branch [
      | then-is_in_group+in_ok-item_text+in_ok-add w ↦
          let next = text-next test text items at item c.items-test.true c.item-item.is
          (sym c.is_in_group.ensures ∙ w.if-is_in_group.true)
          ∙ ap (λ t. t ∷ texts_from test text items (at + 1)) (sym w.in_ok-item_text.ensures) in
          record {
            listing = λ rest all so.
                let tail = texts_from test text items (at + 1) ++ rest in
                subst (λ (l : Listing). IsListing (bytes_of_each l.kept.items) l.others tail all) (sym w.listing-is)
                (w.in_ok-add.ensures.listing tail all
                (subst (λ texts. IsListing (bytes_of_each old.kept.items) old.others (texts ++ rest) all) next
                (c.items.invariant.listing rest all so)));
            few = omega (
              arith,
              ap (λ (l : Listing). l.others) w.listing-is,
              w.in_ok-add.ensures.others,
              c.items.invariant.few,
            );
          }
      | else-is_in_group w ↦
          let next = text-left_out test text items at item c.items-test.true c.item-item.is
          (sym c.is_in_group.ensures ∙ w.if-is_in_group.false) in
          record {
            listing = λ rest all so.
                let tail = texts_from test text items (at + 1) ++ rest in
                subst (λ (l : Listing). IsListing (bytes_of_each l.kept.items) l.others tail all) (sym w.listing-is)
                (subst (λ texts. IsListing (bytes_of_each old.kept.items) old.others (texts ++ rest) all) next
                (c.items.invariant.listing rest all so));
            few = omega (arith, ap (λ (l : Listing). l.others) w.listing-is, c.items.invariant.few);
          }
    ]
