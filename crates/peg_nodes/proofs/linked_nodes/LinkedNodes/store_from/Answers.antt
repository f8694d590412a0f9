use Rattle.std.proofs.Common.{◌≡◌, ◌-◌, ◌∷◌, [], ◌++◌, drop, take, rules, sym, subst, ◌∙◌}
use Rattle.std.proofs.lemmas.List.{take_more_set}
use Rattle.peg_nodes.specs.Expansion.{images_of}
use Rattle.peg_nodes.specs.OpenNodes.{AreClosed}
use Rattle.peg_nodes.specs.declared.item.Link.{Link}
use Rattle.peg_nodes.specs.declared.item.Item.TheVariants.{Stored}
use Rattle.peg_nodes.proofs.CountLemmas.{expand-drop}
use Rattle.peg_nodes.proofs.SoundLemmas.{before_item, new_link, is_new_link, IsSound-stored}
use Rattle.peg_nodes.proofs.ChangeLemmas.{KeepsLinks-grown, link_nodes-stored, nodes_of-stored, KeepsCutsUpTo-stored}
use Rattle.peg_nodes.proofs.linked_nodes.LinkedNodes.store_from.Goals as goal

pub overflow_sub-link-2 : goal.overflow_sub-link-2
overflow_sub-link-2 c =
    let place = rw (← c.self.view_is) at c.requires.place in
    before_item _ _ _ _ _ _ c.self.invariant place.within place.counted

pub invariant_of-self-2 : goal.invariant_of-self-2
invariant_of-self-2 c =
    let items = c.self.inside.items.items in
    let stored = c.self.inside.stored.items in
    let place = rw (← c.self.view_is) at c.requires.place in
    let are_closed = rw (← c.self.view_is) at c.requires.are_closed in
    let is_new =
    is_new_link items stored c.args.index c.args.at c.self.inside.count c.len.result c.len-2.result
    (c.len.ensures ∙ c.self.inside.stored.ok.0) (c.len-2.ensures ∙ c.self.inside.items.ok.0) in
    let link : Link =
    record { start = c.len.result; len = c.len-2.result - c.args.index; count = c.self.inside.count - c.args.at } in
    let grown : c.store_items.new.stored.items ≡ stored ++ drop c.args.index items =
    rw (← c.deref.ensures.value) c.in_ok-store_items.ensures in
    rw (grown, c.truncate.ensures.items ∙ take_more_set items c.args.index (Stored link) place.within)
    (IsSound-stored _ _ _ _ _ _ _ c.self.invariant place.within place.counted is_new
    (subst AreClosed (expand-drop (images_of stored) items _ _ place.counted) are_closed))

pub returns : goal.returns
returns c =
    let items = c.self.inside.items.items in
    let stored = c.self.inside.stored.items in
    let place = rw (← c.self.view_is) at c.requires.place in
    let is_new =
    is_new_link items stored c.args.index c.args.at c.self.inside.count c.len.result c.len-2.result
    (c.len.ensures ∙ c.self.inside.stored.ok.0) (c.len-2.ensures ∙ c.self.inside.items.ok.0) in
    let link : Link =
    record { start = c.len.result; len = c.len-2.result - c.args.index; count = c.self.inside.count - c.args.at } in
    let grown : c.store_items.new.stored.items ≡ stored ++ drop c.args.index items =
    rw (← c.deref.ensures.value) c.in_ok-store_items.ensures in
    let left : c.truncate.new.self.items ≡ take c.args.index items ++ Stored link ∷ [] =
    c.truncate.ensures.items ∙ take_more_set items c.args.index (Stored link) place.within in
    record {
      ok = rw (← c.self.view_is, grown) (
        new_link _ _ _ _ _ _ _ c.self.invariant place.within place.counted is_new,
        link_nodes-stored _ _ _ _ _ _ _ c.self.invariant is_new
            ∙ sym (expand-drop (images_of stored) items _ _ place.counted),
      );
      err = search rules;
      nodes = rw (← c.self.view_is, grown, left) (nodes_of-stored _ _ _ _ _ _ _ c.self.invariant is_new);
      cuts = rw (← c.self.view_is, grown, left)
          (KeepsCutsUpTo-stored _ _ _ _ _ _ (Stored link) c.self.invariant place.within place.counted);
      links = rw (← c.self.view_is, grown)
          (KeepsLinks-grown items c.truncate.new.self.items stored (drop c.args.index items));
    }
