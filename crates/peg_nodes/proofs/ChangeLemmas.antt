-- The nodes, cuts and links after each change of the items.
use Rattle.std.proofs.Common.{◌≡◌, ◌≢◌, ◌⊎◌, inl, inr, ℕ, zero, suc, ◌+◌, ◌-◌, ◌^◌, ◌<◌, ◌≤◌, List, [], ◌∷◌, ◌++◌}
use Rattle.std.proofs.Common.{length, take, drop, set, refl, sym, ◌∙◌, ap, subst, arith, append-nil, length-append}
use Rattle.std.proofs.Common.{length-drop, length-take, length-set}
use Rattle.std.specs.List.{All}
use Rattle.std.proofs.lemmas.Bool.{cases_lt}
use Rattle.std.proofs.lemmas.List.{length-take-le, take_all, take_at, take-take, take-append-le, take-set-le, set_at}
use Rattle.std.proofs.lemmas.List.{same_from_push}
use Rattle.std.proofs.lemmas.List.Concat.{flat_map-append}
use Rattle.std.proofs.lemmas.List.Elements.{All-take, All-drop, All-tail, All-append, All-cons}
use Rattle.peg_bytes.specs.declared.span.Span.{Span}
use Rattle.peg_tree.specs.Rows.{Row, row_of}
use Rattle.peg_tree.specs.declared.row.TreeNode.{TreeNode}
use Rattle.peg_nodes.specs.Expansion.{range_rows, image, images_of, expand}
use Rattle.peg_nodes.specs.OpenNodes.{AreClosed, IsOpenAt, closed_row}
use Rattle.peg_nodes.specs.Places.{places_before}
use Rattle.peg_nodes.specs.Linked.{Linked, linked, nodes_of, IsCut, IsItemAt, KeepsCutsUpTo, KeepsLinks}
use Rattle.peg_nodes.specs.Invariant.{IsClosedItem, IsLinkItem, count_of, open_at, opened_from, IsSound}
use Rattle.peg_nodes.specs.declared.item.Link.{Link}
use Rattle.peg_nodes.specs.declared.item.OpenNode.{OpenNode}
use Rattle.peg_nodes.specs.declared.item.Item.{Item}
use Rattle.peg_nodes.specs.declared.item.Item.TheVariants.{Node, Stored}
use Rattle.peg_nodes.proofs.ImageLemmas.{IsLinkInto-grown, range_rows-grown, expand-grown, range_rows-newest}
use Rattle.peg_nodes.proofs.CountLemmas.{count_of-exact, count_of-append, expand-split, expand-take, expand-longer}
use Rattle.peg_nodes.proofs.CountLemmas.{short_cut}
use Rattle.peg_nodes.proofs.OpenLemmas.{opened_from-append, opened_from-closed, open_at-closed, open_at-open}
use Rattle.peg_nodes.proofs.OpenLemmas.{All-left, All-right, closed_items, closed_link, open_item}
use Rattle.peg_nodes.proofs.SoundLemmas.{IsSound-pushed, IsSound-popped, IsNewLink}

-- ---- push

pub IsSound-pushed_closed : (items stored : List Item) (opened : List OpenNode) (count : ℕ) (node : TreeNode)
    → IsSound items stored opened count
    → node.size ≢ 0 → count < 2 ^ 62 → IsSound (items ++ Node node ∷ []) stored opened (count + 1)
IsSound-pushed_closed items stored opened count node sound closed few =
    let none : open_at (length items) count node.size ≡ [] = open_at-closed (length items) count node.size closed in
    IsSound-pushed items stored opened opened count (Node node) sound tt (omega arith)
    (sym (append-nil opened) ∙ ap (λ (xs : List OpenNode). opened ++ (xs ++ [])) (sym none))

pub IsSound-pushed_open : (items stored : List Item) (opened : List OpenNode) (count index : ℕ) (node : TreeNode)
    → IsSound items stored opened count
    → node.size ≡ 0 → count < 2 ^ 62 → index ≡ length items
    → IsSound (items ++ Node node ∷ []) stored (opened ++ record { item = index; before = count } ∷ []) (count + 1)
IsSound-pushed_open items stored opened count index node sound is_open few same =
    let place = open_at-open (length items) count node.size is_open in
    IsSound-pushed items stored opened (opened ++ record { item = index; before = count } ∷ []) count (Node node) sound
    tt (omega arith)
    (ap (λ (i : ℕ). opened ++ record { item = i; before = count } ∷ []) same ∙ ap (λ (xs : List OpenNode). opened ++ (xs ++ [])) (sym place))

-- ---- truncate

places_before-last : (i n size : ℕ) (places : List OpenNode)
    → places ++ (open_at i n size ++ []) ≡ places_before size (places ++ (open_at i n size ++ [])) ++
    (open_at i n size ++ [])
places_before-last i n zero places =
    let last : List OpenNode = record { item = i; before = n } ∷ [] in
    let count : length (places ++ last) - 1 ≡ length places = omega (arith, length-append places last) in
    let first : take (length (places ++ last) - 1) (places ++ last) ≡ places =
    ap (λ (k : ℕ). take k (places ++ last)) count ∙ take_at places last (length places) refl in
    ap (λ (xs : List OpenNode). xs ++ last) (sym first)
places_before-last i n (suc size) places = sym (append-nil (places ++ []))

pub IsSound-popped_node : (items stored : List Item) (opened : List OpenNode) (count : ℕ) (node : TreeNode)
    → IsSound (items ++ Node node ∷ []) stored opened count
    → (1 ≤ count) × IsSound items stored (places_before node.size opened) (count - 1)
IsSound-popped_node items stored opened count node sound =
    let counted = sound.counted in
    let some : 1 ≤ count = omega (arith, count_of-append items (Node node ∷ [])) in
    let before : 0 + count_of items ≡ count - 1 = omega (arith, count_of-append items (Node node ∷ [])) in
    let index : 0 + length items ≡ length items = omega arith in
    let last = open_at (length items) (count - 1) node.size in
    let split = opened_from-append 0 0 items (Node node ∷ []) in
    let at =
    ap (λ (i : ℕ). open_at i (0 + count_of items) node.size ++ []) index
    ∙ ap (λ (n : ℕ). open_at (length items) n node.size ++ []) before in
    let places : opened ≡ opened_from 0 0 items ++ (last ++ []) =
    sound.places ∙ split ∙ ap (λ (xs : List OpenNode). opened_from 0 0 items ++ xs) at in
    let more : opened ≡ places_before node.size opened ++ (last ++ []) =
    places ∙ places_before-last (length items) (count - 1) node.size (opened_from 0 0 items)
    ∙ ap (λ (xs : List OpenNode). places_before node.size xs ++ (last ++ [])) (sym places) in
    (some, IsSound-popped items stored opened (places_before node.size opened) count (count - 1) (Node node) sound (omega arith) more)

pub IsSound-popped_link : (items stored : List Item) (opened : List OpenNode) (count : ℕ) (link : Link)
    → IsSound (items ++ Stored link ∷ []) stored opened count
    → (link.count ≤ count) × IsSound items stored opened (count - link.count)
IsSound-popped_link items stored opened count link sound =
    let counted = sound.counted in
    let some : link.count ≤ count = omega (arith, count_of-append items (Stored link ∷ [])) in
    (some, IsSound-popped items stored opened opened count (count - link.count) (Stored link) sound (omega arith) (sym (append-nil opened)))

-- the first items denote the first nodes
pub nodes_of-truncated : (old now : Linked) (count : ℕ) → now.stored ≡ old.stored
    → now.items ≡ take (length now.items) old.items → IsCut now count
    → length (nodes_of now) ≤ count → nodes_of now ≡ take count (nodes_of old)
nodes_of-truncated old now count stored items cut few =
    let images = images_of now.stored in
    let within = cut.within in
    let longer = expand-longer images now.items cut.kept (length now.items) within in
    let whole =
    ap (λ (xs : List Item). length (expand images xs)) (take_all (length now.items) now.items (omega arith)) in
    let counted = cut.counted in
    let exact : length (expand images (take (length now.items) old.items)) ≡ count =
    ap (λ (xs : List Item). length (expand images xs)) (sym items) ∙ (omega arith) in
    ap (expand images) items ∙ sym (expand-take images old.items (length now.items) count exact)
    ∙ ap (λ (xs : List Item). take count (expand (images_of xs) old.items)) stored

pub KeepsCutsUpTo-truncated : (old now : Linked) (count : ℕ) → now.stored ≡ old.stored
    → now.items ≡ take (length now.items) old.items → IsCut now count
    → KeepsCutsUpTo count old now
KeepsCutsUpTo-truncated old now count stored items cut n few old_cut =
    let within = cut.within in
    let longer = expand-longer (images_of now.stored) now.items cut.kept (length now.items) within in
    let whole =
    ap (λ (xs : List Item). length (expand (images_of now.stored) xs))
    (take_all (length now.items) now.items (omega arith) ∙ items) in
    let counted = cut.counted in
    let moved : length (expand (images_of now.stored) (take (length now.items) old.items)) ≡ length
    (expand (images_of old.stored) (take (length now.items) old.items)) =
    ap (λ (xs : List Item). length (expand (images_of xs) (take (length now.items) old.items))) stored in
    let short = short_cut old.items old.stored (length now.items) n old_cut (omega arith) in
    let short_within = short.within in
    record {
      kept = short.kept;
      within = short.within;
      counted = ap (λ (xs : List Item). length (expand (images_of now.stored) (take short.kept xs))) items
          ∙ ap (λ (xs : List Item). length (expand (images_of now.stored) xs))
          (take-take short.kept (length now.items) old.items short_within)
          ∙ ap (λ (xs : List Item). length (expand (images_of xs) (take short.kept old.items))) stored
          ∙ short.counted;
    }

-- the first items, without the last one of them
pub popped_again : (old now popped : Linked) → now.items ≡ take (length now.items) old.items
    → popped ≡ linked (take (length now.items - 1) now.items) now.stored
    → popped.items ≡ take (length popped.items) old.items
popped_again old now popped items same =
    let fewer : length now.items - 1 ≤ length now.items = omega arith in
    let last : popped.items ≡ take (length now.items - 1) now.items = ap (λ (nodes : Linked). nodes.items) same in
    let long : length popped.items ≡ length now.items - 1 =
    ap length last ∙ length-take-le (length now.items - 1) now.items fewer in
    last ∙ ap (take (length now.items - 1)) items ∙ take-take (length now.items - 1) (length now.items) old.items fewer
    ∙ ap (λ (n : ℕ). take n old.items) (sym long)

-- a cut of fewer nodes stays one without the last item
pub IsCut-popped : (now : Linked) (count : ℕ) → IsCut now count → count < length (nodes_of now)
    → IsCut (linked (take (length now.items - 1) now.items) now.stored) count
IsCut-popped now count cut few =
    by (cases_lt (length now.items - 1) cut.kept)
  where
    by : (length now.items - 1 < cut.kept) ⊎ (cut.kept ≤ length now.items - 1)
        → IsCut (linked (take (length now.items - 1) now.items) now.stored) count
    by (inl more) =
        let within = cut.within in
        let counted = cut.counted in
        let whole =
        ap (λ (xs : List Item). length (expand (images_of now.stored) xs))
        (take_all cut.kept now.items (omega arith)) in
        absurd (omega arith)
    by (inr less) = record {
      kept = cut.kept;
      within = omega (arith, length-take (length now.items - 1) now.items);
      counted = ap (λ (xs : List Item). length (expand (images_of now.stored) xs))
          (take-take cut.kept (length now.items - 1) now.items less) ∙ cut.counted;
    }

-- ---- close

-- the items before and after the newest open node
pub record NewestItem (items stored : List Item) (opened : List OpenNode) (at : ℕ) : Type 0 where
  pub first : List Item
  pub node : TreeNode
  pub last : List Item
  pub parts : items ≡ first ++ Node node ∷ last
  pub counted : length (expand (images_of stored) first) ≡ at
  pub places : opened ≡ opened_from 0 0 first ++ record { item = length first; before = at } ∷ []
  pub closed : All IsClosedItem last

pub newest_item : (items stored : List Item) (opened : List OpenNode) (count at : ℕ) → IsSound items stored opened count
    → IsOpenAt (expand (images_of stored) items) at → NewestItem items stored opened at
newest_item items stored opened count at sound newest =
    let images = images_of stored in
    let found =
    open_item images (λ (link : Link). closed_link stored link sound.are_closed) items newest.before newest.after
    newest.newest newest.parts newest.is_open in
    let closed = closed_items images found.last (subst AreClosed (sym found.after_is) newest.are_closed) in
    let links : All (IsLinkItem stored) found.first =
    All-left (IsLinkItem stored) found.first (Node found.node ∷ found.last)
    (subst (All (IsLinkItem stored)) found.parts sound.links) in
    let counted : length (expand images found.first) ≡ at = ap length found.before_is ∙ newest.counted in
    let exact = count_of-exact stored found.first links in
    let index : 0 + length found.first ≡ length found.first = omega arith in
    let before : 0 + count_of found.first ≡ at = omega arith in
    let none = opened_from-closed (0 + length found.first + 1) (0 + count_of found.first + 1) found.last closed in
    let place = open_at-open (0 + length found.first) (0 + count_of found.first) found.node.size found.is_open in
    let split = opened_from-append 0 0 found.first (Node found.node ∷ found.last) in
    let one : opened_from (0 + length found.first) (0 + count_of found.first) (Node found.node ∷ found.last) ≡ record
    { item = length found.first; before = at } ∷ [] =
    ap (λ (xs : List OpenNode). open_at (0 + length found.first) (0 + count_of found.first) found.node.size ++ xs) none
    ∙ ap (λ (xs : List OpenNode). xs ++ []) place
    ∙ ap (λ (i : ℕ). record { item = i; before = 0 + count_of found.first } ∷ []) index
    ∙ ap (λ (n : ℕ). record { item = length found.first; before = n } ∷ []) before in
    record {
      first = found.first;
      node = found.node;
      last = found.last;
      parts = found.parts;
      counted = counted;
      places = sound.places ∙ ap (opened_from 0 0) found.parts ∙ split
          ∙ ap (λ (xs : List OpenNode). opened_from 0 0 found.first ++ xs) one;
      closed = closed;
    }

-- the place that is popped
pub record PoppedPlace (items stored : List Item) (count at : ℕ) (place : OpenNode) : Type 0 where
  pub within : place.item < length items
  pub before : place.before ≡ at
  pub counted : length (expand (images_of stored) (take place.item items)) ≡ at
  pub fewer : at < count

same_places : (items stored : List Item) (opened popped : List OpenNode) (at : ℕ) (place : OpenNode)
    → (newest : NewestItem items stored opened at)
    → opened ≡ popped ++ place ∷ []
    → (popped ≡ opened_from 0 0 newest.first) × (place ≡ record { item = length newest.first; before = at })
same_places items stored opened popped at place newest same =
    same_from_push popped (opened_from 0 0 newest.first) place (record { item = length newest.first; before = at })
    (sym same ∙ newest.places)

pub popped_place : (items stored : List Item) (opened popped : List OpenNode) (count at : ℕ) (place : OpenNode)
    → IsSound items stored opened count
    → IsOpenAt (expand (images_of stored) items) at → opened ≡ popped ++ place ∷ []
    → PoppedPlace items stored count at place
popped_place items stored opened popped count at place sound is_open same =
    let newest = newest_item items stored opened count at sound is_open in
    let found = same_places items stored opened popped at place newest same in
    let index : place.item ≡ length newest.first = ap (λ (p : OpenNode). p.item) found.1 in
    let parts = newest.parts in
    let first : take place.item items ≡ newest.first =
    ap (take place.item) parts ∙ take_at newest.first (Node newest.node ∷ newest.last) place.item (sym index) in
    let total = sound.counted ∙ count_of-exact stored items sound.links in
    let split = ap (λ (xs : List Item). length (expand (images_of stored) xs)) parts in
    let halves = ap length (flat_map-append (image (images_of stored)) newest.first (Node newest.node ∷ newest.last)) in
    let counted = newest.counted in
    record {
      within = omega (arith, ap length parts, length-append newest.first (Node newest.node ∷ newest.last));
      before = ap (λ (p : OpenNode). p.before) found.1;
      counted = ap (λ (xs : List Item). length (expand (images_of stored) xs)) first ∙ newest.counted;
      fewer = omega (arith, length-append (expand (images_of stored) newest.first) (expand (images_of stored) (Node newest.node ∷ newest.last)));
    }

-- the items once it is closed
closed_parts : (items stored : List Item) (opened popped : List OpenNode) (at : ℕ) (place : OpenNode) (node : TreeNode)
    → (newest : NewestItem items stored opened at)
    → opened ≡ popped ++ place ∷ [] → set items place.item (Node node) ≡ newest.first ++ Node node ∷ newest.last
closed_parts items stored opened popped at place node newest same =
    let found = same_places items stored opened popped at place newest same in
    let index : place.item ≡ length newest.first = ap (λ (p : OpenNode). p.item) found.1 in
    ap (λ (xs : List Item). set xs place.item (Node node)) newest.parts
    ∙ set_at newest.first (Node newest.node) newest.last (Node node) place.item (sym index)

pub IsSound-closed : (items stored : List Item) (opened popped : List OpenNode) (count at : ℕ) (place : OpenNode)
    (node : TreeNode) → IsSound items stored opened count
    → IsOpenAt (expand (images_of stored) items) at → opened ≡ popped ++ place ∷ [] → node.size ≢ 0
    → IsSound (set items place.item (Node node)) stored popped count
IsSound-closed items stored opened popped count at place node sound is_open same size =
    let newest = newest_item items stored opened count at sound is_open in
    let found = same_places items stored opened popped at place newest same in
    let old = newest.first ++ Node newest.node ∷ newest.last in
    let new = newest.first ++ Node node ∷ newest.last in
    let links : All (IsLinkItem stored) old = subst (All (IsLinkItem stored)) newest.parts sound.links in
    let rest =
    All-tail (IsLinkItem stored) (Node newest.node) newest.last
    (All-right (IsLinkItem stored) newest.first (Node newest.node ∷ newest.last) links) in
    let all_closed = All-cons IsClosedItem (Node node) newest.last size newest.closed in
    let none =
    opened_from-closed (0 + length newest.first) (0 + count_of newest.first) (Node node ∷ newest.last) all_closed in
    let total = sound.counted ∙ ap count_of newest.parts in
    subst (λ (xs : List Item). IsSound xs stored popped count)
    (sym (closed_parts items stored opened popped at place node newest same))
    (record {
      older = sound.older;
      are_closed = sound.are_closed;
      links = All-append (IsLinkItem stored) newest.first (Node node ∷ newest.last)
          (All-left (IsLinkItem stored) newest.first (Node newest.node ∷ newest.last) links)
          (All-cons (IsLinkItem stored) (Node node) newest.last tt rest);
      places = found.0
          ∙ sym (opened_from-append 0 0 newest.first (Node node ∷ newest.last) ∙ ap (λ (xs : List OpenNode). opened_from 0 0 newest.first ++ xs) none
          ∙ append-nil (opened_from 0 0 newest.first));
      counted = omega (arith, count_of-append newest.first (Node newest.node ∷ newest.last), count_of-append newest.first (Node node ∷ newest.last));
      few = sound.few;
    })

pub nodes_of-closed : (items stored : List Item) (opened popped : List OpenNode) (count at rule : ℕ) (span : Span)
    (place : OpenNode) (node : TreeNode) → IsSound items stored opened count
    → IsOpenAt (expand (images_of stored) items) at → opened ≡ popped ++ place ∷ []
    → row_of node ≡ closed_row rule span (expand (images_of stored) items) at
    → expand (images_of stored) (set items place.item (Node node))
    ≡ set (expand (images_of stored) items) at (closed_row rule span (expand (images_of stored) items) at)
nodes_of-closed items stored opened popped count at rule span place node sound is_open same row =
    let newest = newest_item items stored opened count at sound is_open in
    let images = images_of stored in
    let closed = closed_row rule span (expand images items) at in
    let new =
    ap (expand images) (closed_parts items stored opened popped at place node newest same)
    ∙ flat_map-append (image images) newest.first (Node node ∷ newest.last) in
    let old =
    ap (expand images) newest.parts
    ∙ flat_map-append (image images) newest.first (Node newest.node ∷ newest.last) in
    new ∙ ap (λ (r : Row). expand images newest.first ++ r ∷ expand images newest.last) row
    ∙ sym (set_at (expand images newest.first) (row_of newest.node) (expand images newest.last) closed at newest.counted)
    ∙ ap (λ (rows : List Row). set rows at closed) (sym old)

pub IsItemAt-closed : (items stored : List Item) (count at : ℕ) (place : OpenNode) (item : Item)
    → PoppedPlace items stored count at place
    → IsItemAt (linked (set items place.item item) stored) place.item at
IsItemAt-closed items stored count at place item popped =
    let within = popped.within in record {
      within = omega (arith, length-set items place.item item);
      counted = ap (λ (xs : List Item). length (expand (images_of stored) xs))
          (take-set-le place.item items place.item item (omega arith)) ∙ popped.counted;
    }

pub KeepsCutsUpTo-closed : (items stored : List Item) (count at : ℕ) (place : OpenNode) (item : Item)
    → PoppedPlace items stored count at place
    → KeepsCutsUpTo at (linked items stored) (linked (set items place.item item) stored)
KeepsCutsUpTo-closed items stored count at place item popped n few cut =
    let within = popped.within in
    let counted = popped.counted in
    let short = short_cut items stored place.item n cut (omega arith) in
    let short_within = short.within in
    record {
      kept = short.kept;
      within = omega (arith, length-set items place.item item);
      counted = ap (λ (xs : List Item). length (expand (images_of stored) xs))
          (take-set-le short.kept items place.item item short_within) ∙ short.counted;
    }

-- ---- store

pub KeepsLinks-grown : (items kept stored moved : List Item)
    → KeepsLinks (linked items stored) (linked kept (stored ++ moved))
KeepsLinks-grown items kept stored moved link is_link
    = (IsLinkInto-grown stored moved link is_link, range_rows-grown stored moved link is_link)

pub link_nodes-stored : (items stored : List Item) (opened : List OpenNode) (count index at : ℕ) (link : Link)
    → IsSound items stored opened count → IsNewLink items stored index at count link
    → range_rows (images_of (stored ++ drop index items)) link ≡ expand (images_of stored) (drop index items)
link_nodes-stored items stored opened count index at link sound is_new =
    let len = is_new.len in
    range_rows-newest stored (drop index items) link (All-drop (IsLinkItem stored) index items sound.links) is_new.start
    (omega (arith, length-drop index items))

pub nodes_of-stored : (items stored : List Item) (opened : List OpenNode) (count index at : ℕ) (link : Link)
    → IsSound items stored opened count → IsNewLink items stored index at count link
    → expand (images_of (stored ++ drop index items)) (take index items ++ Stored link ∷ []) ≡ expand (images_of stored)
    items
nodes_of-stored items stored opened count index at link sound is_new =
    let new = images_of (stored ++ drop index items) in
    let kept =
    expand-grown stored (drop index items) (take index items) (All-take (IsLinkItem stored) index items sound.links)
    in
    let moved = link_nodes-stored items stored opened count index at link sound is_new in
    flat_map-append (image new) (take index items) (Stored link ∷ [])
    ∙ ap (λ (rows : List Row). expand new (take index items) ++ rows) (append-nil (range_rows new link) ∙ moved)
    ∙ ap (λ (rows : List Row). rows ++ expand (images_of stored) (drop index items)) kept
    ∙ sym (expand-split (images_of stored) items index)

pub KeepsCutsUpTo-stored : (items stored : List Item) (opened : List OpenNode) (count index at : ℕ) (item : Item)
    → IsSound items stored opened count
    → index < length items → length (expand (images_of stored) (take index items)) ≡ at
    → KeepsCutsUpTo at (linked items stored) (linked (take index items ++ item ∷ []) (stored ++ drop index items))
KeepsCutsUpTo-stored items stored opened count index at item sound within before n few cut =
    let short = short_cut items stored index n cut (omega arith) in
    let short_within = short.within in
    let long : length (take index items) ≡ index = length-take-le index items (omega arith) in
    let fits : short.kept ≤ length (take index items) = omega arith in
    record {
      kept = short.kept;
      within = omega (arith, length-append (take index items) (item ∷ []));
      counted = ap (λ (xs : List Item). length (expand (images_of (stored ++ drop index items)) xs))
          (take-append-le short.kept (take index items) (item ∷ []) fits ∙ take-take short.kept index items short_within)
          ∙ ap length (expand-grown stored (drop index items) (take short.kept items) (All-take (IsLinkItem stored) short.kept items sound.links))
          ∙ short.counted;
    }
