-- The invariant after each change of the items.
use Rattle.std.proofs.Common.{◌≡◌, ℕ, ◌+◌, ◌-◌, ◌^◌, ◌<◌, ◌≤◌, List, [], ◌∷◌, ◌++◌, length, take, drop, refl, sym}
use Rattle.std.proofs.Common.{◌∙◌, ap, arith, length-append, length-drop, take-append-drop}
use Rattle.std.specs.List.{All}
use Rattle.std.proofs.lemmas.List.{append_cancel_right}
use Rattle.std.proofs.lemmas.List.Elements.{All-nil, All-head, All-tail, All-append, All-push, All-take, All-drop}
use Rattle.std.proofs.lemmas.List.Elements.{All-weaker}
use Rattle.peg_nodes.specs.Expansion.{images_of, expand}
use Rattle.peg_nodes.specs.OpenNodes.{AreClosed}
use Rattle.peg_nodes.specs.Linked.{IsLinkInto}
use Rattle.peg_nodes.specs.Invariant.{RefersBelow, RefersBack, IsClosedItem, IsLinkItem, item_count, count_of}
use Rattle.peg_nodes.specs.Invariant.{opened_from, IsSound}
use Rattle.peg_nodes.specs.declared.item.Link.{Link}
use Rattle.peg_nodes.specs.declared.item.OpenNode.{OpenNode}
use Rattle.peg_nodes.specs.declared.item.Item.{Item}
use Rattle.peg_nodes.specs.declared.item.Item.TheVariants.{Node, Stored}
use Rattle.peg_nodes.proofs.ImageLemmas.{RefersBelow-links, images_of-length, IsLinkItem-grown, range_rows-newest}
use Rattle.peg_nodes.proofs.CountLemmas.{count_of-exact, count_of-append, expand-split}
use Rattle.peg_nodes.proofs.OpenLemmas.{opened_from-append, opened_from-closed, All-left, closed_items}

pub IsSound-empty : IsSound [] [] [] 0
IsSound-empty = record {
  older = tt;
  are_closed = All-nil IsClosedItem;
  links = All-nil (IsLinkItem []);
  places = refl;
  counted = refl;
  few = omega arith;
}

-- the open nodes and the number of nodes, with an item more
opened_from-pushed : (items : List Item) (item : Item) (count : ℕ) → count ≡ count_of items
    → opened_from 0 0 (items ++ item ∷ []) ≡ opened_from 0 0 items ++ opened_from (length items) count (item ∷ [])
opened_from-pushed items item count counted =
    let index : 0 + length items ≡ length items = omega arith in
    let before : 0 + count_of items ≡ count = omega arith in
    let split = opened_from-append 0 0 items (item ∷ []) in cc

pub IsSound-pushed : (items stored : List Item) (opened more : List OpenNode) (count : ℕ) (item : Item)
    → IsSound items stored opened count
    → IsLinkItem stored item → count + item_count item ≤ 2 ^ 62
    → more ≡ opened ++ opened_from (length items) count (item ∷ [])
    → IsSound (items ++ item ∷ []) stored more (count + item_count item)
IsSound-pushed items stored opened more count item sound is_link few places = record {
  older = sound.older;
  are_closed = sound.are_closed;
  links = All-push (IsLinkItem stored) items item sound.links is_link;
  places = places ∙ ap (λ (xs : List OpenNode). xs ++ opened_from (length items) count (item ∷ [])) sound.places
      ∙ sym (opened_from-pushed items item count sound.counted);
  counted = let counted = sound.counted in omega (arith, count_of-append items (item ∷ []));
  few = few;
}

pub IsSound-popped : (items stored : List Item) (opened fewer : List OpenNode) (count less : ℕ) (item : Item)
    → IsSound (items ++ item ∷ []) stored opened count → less + item_count item ≡ count
    → opened ≡ fewer ++ opened_from (length items) less (item ∷ []) → IsSound items stored fewer less
IsSound-popped items stored opened fewer count less item sound counts places =
    let total : less ≡ count_of items =
    let counted = sound.counted in omega (arith, count_of-append items (item ∷ [])) in
    record {
      older = sound.older;
      are_closed = sound.are_closed;
      links = All-left (IsLinkItem stored) items (item ∷ []) sound.links;
      places = append_cancel_right fewer (opened_from 0 0 items) (opened_from (length items) less (item ∷ []))
          (sym places ∙ sound.places ∙ opened_from-pushed items item less total);
      counted = total;
      few = let few = sound.few in omega arith;
    }

-- ---- a stored result

RefersBelow-more : (few many : ℕ) (item : Item) → few ≤ many → RefersBelow few item → RefersBelow many item
RefersBelow-more few many (Node node) less refers = tt
RefersBelow-more few many (Stored link) less refers = omega arith

-- items that refer to the oldest items only
RefersBack-below : (few older : ℕ) (items : List Item) → few ≤ older → All (RefersBelow few) items
    → RefersBack older items
RefersBack-below few older [] less refers = tt
RefersBack-below few older (item ∷ items) less refers = (
  RefersBelow-more few older item less (All-head (RefersBelow few) item items refers),
  RefersBack-below few (older + 1) items (omega arith) (All-tail (RefersBelow few) item items refers),
)

RefersBack-append : (older few : ℕ) (stored items : List Item) → few ≡ older + length stored → RefersBack older stored
    → All (RefersBelow few) items
    → RefersBack older (stored ++ items)
RefersBack-append older few [] items same back refers = RefersBack-below few older items (omega arith) refers
RefersBack-append older few (item ∷ stored) items same back refers =
    (back.0, RefersBack-append (older + 1) few stored items (omega arith) back.1 refers)

-- a link to the items from `index` on, once they are stored
pub record IsNewLink (items stored : List Item) (index at count : ℕ) (link : Link) : Type 0 where
  pub start : link.start ≡ length stored
  pub len : link.len ≡ length items - index
  pub counted : link.count ≡ count - at

pub new_link : (items stored : List Item) (opened : List OpenNode) (count index at : ℕ) (link : Link)
    → IsSound items stored opened count
    → index < length items → length (expand (images_of stored) (take index items)) ≡ at
    → IsNewLink items stored index at count link
    → IsLinkInto (stored ++ drop index items) link
new_link items stored opened count index at link sound within before is_new =
    let moved = All-drop (IsLinkItem stored) index items sound.links in
    let start = is_new.start in
    let len = is_new.len in
    let long : link.len ≡ length (drop index items) = omega (arith, length-drop index items) in
    let same = range_rows-newest stored (drop index items) link moved start long in
    record {
      within = omega (arith, length-append stored (drop index items));
      counted =
          let total = sound.counted ∙ count_of-exact stored items sound.links in
          let counted = is_new.counted in
          omega (arith, ap length same, ap length (expand-split (images_of stored) items index), length-append (expand (images_of stored) (take index items)) (expand (images_of stored) (drop index items)));
    }

pub IsSound-stored : (items stored : List Item) (opened : List OpenNode) (count index at : ℕ) (link : Link)
    → IsSound items stored opened count
    → index < length items → length (expand (images_of stored) (take index items)) ≡ at
    → IsNewLink items stored index at count link
    → AreClosed (expand (images_of stored) (drop index items))
    → IsSound (take index items ++ Stored link ∷ []) (stored ++ drop index items) opened count
IsSound-stored items stored opened count index at link sound within before is_new closed =
    let kept = take index items in
    let moved = drop index items in
    let moved_closed = closed_items (images_of stored) moved closed in
    let parts : kept ++ moved ≡ items = take-append-drop index items in
    let of_kept = count_of-exact stored kept (All-take (IsLinkItem stored) index items sound.links) in
    let total = sound.counted in
    let counts = count_of-append kept moved in
    let same_count = ap count_of parts in
    let of_link = is_new.counted in
    record {
      older = RefersBack-append 0 (length (images_of stored)) stored moved (omega (arith, images_of-length stored))
          sound.older
          (RefersBelow-links stored moved (All-drop (IsLinkItem stored) index items sound.links));
      are_closed = All-append IsClosedItem stored moved sound.are_closed moved_closed;
      links = All-push (IsLinkItem (stored ++ moved)) kept (Stored link)
          (All-weaker (IsLinkItem stored) (IsLinkItem (stored ++ moved)) (IsLinkItem-grown stored moved) kept
          (All-take (IsLinkItem stored) index items sound.links))
          (new_link items stored opened count index at link sound within before is_new);
      places =
          let of_moved = opened_from-closed (0 + length kept) (0 + count_of kept) moved moved_closed in
          let old : opened_from 0 0 items ≡ opened_from 0 0 kept ++ [] =
          ap (opened_from 0 0) (sym parts) ∙ opened_from-append 0 0 kept moved
          ∙ ap (λ (xs : List OpenNode). opened_from 0 0 kept ++ xs) of_moved in
          sound.places ∙ old ∙ sym (opened_from-append 0 0 kept (Stored link ∷ []));
      counted = omega (arith, count_of-append kept (Stored link ∷ []));
      few = sound.few;
    }

-- the link that `store_from` makes
pub is_new_link : (items stored : List Item) (index at count start all : ℕ) → start ≡ length stored → all ≡ length items
    → IsNewLink items stored index at count (record { start = start; len = all - index; count = count - at })
is_new_link items stored index at count start all starts long = record {
  start = starts;
  len = ap (λ (n : ℕ). n - index) long;
  counted = refl;
}

-- no more nodes are before an item than there are
pub before_item : (items stored : List Item) (opened : List OpenNode) (count index at : ℕ)
    → IsSound items stored opened count → index < length items
    → length (expand (images_of stored) (take index items)) ≡ at → at ≤ count
before_item items stored opened count index at sound within before =
    let total = sound.counted ∙ count_of-exact stored items sound.links in
    let split = ap length (expand-split (images_of stored) items index) in
    omega (arith, length-append (expand (images_of stored) (take index items)) (expand (images_of stored) (drop index items)))
