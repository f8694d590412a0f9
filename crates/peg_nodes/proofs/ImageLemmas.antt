-- The nodes of stored items, and of links to them, as the store grows.
use Rattle.std.proofs.Common.{◌≡◌, ◌+◌, ◌≤◌, List, [], ◌∷◌, ◌++◌, length, take, drop, map, refl, sym, ◌∙◌, ap, arith}
use Rattle.std.proofs.Common.{append_assoc, append-nil, length-append, length-drop}
use Rattle.std.specs.List.{All, flat_map}
use Rattle.std.proofs.lemmas.List.{length-map, length_push, drop-append-le, take-append-le, drop_at, take_all}
use Rattle.std.proofs.lemmas.List.Elements.{All-head, All-tail, All-weaker}
use Rattle.peg_tree.specs.Rows.{Row}
use Rattle.peg_nodes.specs.Expansion.{range_rows, image, images_after, images_of, expand}
use Rattle.peg_nodes.specs.Linked.{IsLinkInto}
use Rattle.peg_nodes.specs.Invariant.{RefersBelow, IsLinkItem}
use Rattle.peg_nodes.specs.declared.item.Link.{Link}
use Rattle.peg_nodes.specs.declared.item.Item.{Item}
use Rattle.peg_nodes.specs.declared.item.Item.TheVariants.{Node, Stored}

-- ---- with more images

-- a link to the first images has the same nodes
pub range_rows-more : (images more : List (List Row)) (link : Link) → link.start + link.len ≤ length images
    → range_rows (images ++ more) link ≡ range_rows images link
range_rows-more images more link within =
    let start : link.start ≤ length images = omega arith in
    let len : link.len ≤ length (drop link.start images) = simp length-drop (omega arith) in
    ap (λ (xs : List (List Row)). flat_map (λ (rows : List Row). rows) (take link.len xs))
    (drop-append-le link.start images more start)
    ∙ ap (flat_map (λ (rows : List Row). rows)) (take-append-le link.len (drop link.start images) more len)

pub image-more : (images more : List (List Row)) (item : Item) → RefersBelow (length images) item
    → image (images ++ more) item ≡ image images item
image-more images more (Node node) refers = refl
image-more images more (Stored link) refers = range_rows-more images more link refers

pub expand-more : (images more : List (List Row)) (items : List Item) → All (RefersBelow (length images)) items
    → expand (images ++ more) items ≡ expand images items
expand-more images more [] refers = refl
expand-more images more (item ∷ items) refers =
    let first = image-more images more item (All-head (RefersBelow (length images)) item items refers) in
    let rest = expand-more images more items (All-tail (RefersBelow (length images)) item items refers) in cc

-- ---- the images of a store

pub images_after-length : (images : List (List Row)) (items : List Item)
    → length (images_after images items) ≡ length images + length items
images_after-length images [] = omega arith
images_after-length images (item ∷ items) =
    omega (arith, images_after-length (images ++ image images item ∷ []) items, length_push images (image images item))

pub images_of-length : (stored : List Item) → length (images_of stored) ≡ length stored
images_of-length stored = omega (arith, images_after-length [] stored)

images_after-append : (images : List (List Row)) (items more : List Item)
    → images_after images (items ++ more) ≡ images_after (images_after images items) more
images_after-append images [] more = refl
images_after-append images (item ∷ items) more = images_after-append (images ++ image images item ∷ []) items more

-- the images that items add
abbrev pub images_added : List (List Row) → List Item → List (List Row)
images_added images [] = []
images_added images (item ∷ items) = image images item ∷ images_added (images ++ image images item ∷ []) items

pub images_after-added : (images : List (List Row)) (items : List Item)
    → images_after images items ≡ images ++ images_added images items
images_after-added images [] = sym (append-nil images)
images_after-added images (item ∷ items) =
    images_after-added (images ++ image images item ∷ []) items
    ∙ append_assoc images (image images item ∷ []) (images_added (images ++ image images item ∷ []) items)

images_of-added : (stored more : List Item)
    → images_of (stored ++ more) ≡ images_of stored ++ images_added (images_of stored) more
images_of-added stored more = images_after-append [] stored more ∙ images_after-added (images_of stored) more

-- items that refer to the first images only add their nodes
images_added-map : (images more : List (List Row)) (items : List Item) → All (RefersBelow (length images)) items
    → images_added (images ++ more) items ≡ map (image images) items
images_added-map images more [] refers = refl
images_added-map images more (item ∷ items) refers =
    let first = image-more images more item (All-head (RefersBelow (length images)) item items refers) in
    let last : List (List Row) = image (images ++ more) item ∷ [] in
    let same = append_assoc images more last in
    let rest =
    images_added-map images (more ++ last) items (All-tail (RefersBelow (length images)) item items refers) in
    let moved = ap (λ (xs : List (List Row)). images_added xs items) same in cc

-- ---- links

RefersBelow-link : (stored : List Item) (item : Item) → IsLinkItem stored item
    → RefersBelow (length (images_of stored)) item
RefersBelow-link stored (Node node) is_link = tt
RefersBelow-link stored (Stored link) is_link =
    let within = is_link.within in omega (arith, images_of-length stored)

-- links refer below the length of the store
pub RefersBelow-links : (stored items : List Item) → All (IsLinkItem stored) items
    → All (RefersBelow (length (images_of stored))) items
RefersBelow-links stored items links =
    All-weaker (IsLinkItem stored) (RefersBelow (length (images_of stored))) (RefersBelow-link stored) items links

-- a link keeps its nodes as the store grows
pub range_rows-grown : (stored more : List Item) (link : Link) → IsLinkInto stored link
    → range_rows (images_of (stored ++ more)) link ≡ range_rows (images_of stored) link
range_rows-grown stored more link is_link =
    let within = is_link.within in
    let below : link.start + link.len ≤ length (images_of stored) = omega (arith, images_of-length stored) in
    ap (λ (images : List (List Row)). range_rows images link) (images_of-added stored more)
    ∙ range_rows-more (images_of stored) (images_added (images_of stored) more) link below

pub IsLinkInto-grown : (stored more : List Item) (link : Link) → IsLinkInto stored link
    → IsLinkInto (stored ++ more) link
IsLinkInto-grown stored more link is_link = record {
  within = let within = is_link.within in omega (arith, length-append stored more);
  counted = is_link.counted ∙ ap length (sym (range_rows-grown stored more link is_link));
}

pub IsLinkItem-grown : (stored more : List Item) (item : Item) → IsLinkItem stored item
    → IsLinkItem (stored ++ more) item
IsLinkItem-grown stored more (Node node) is_link = tt
IsLinkItem-grown stored more (Stored link) is_link = IsLinkInto-grown stored more link is_link

-- items keep their nodes as the store grows
pub expand-grown : (stored more items : List Item) → All (IsLinkItem stored) items
    → expand (images_of (stored ++ more)) items ≡ expand (images_of stored) items
expand-grown stored more items links =
    ap (λ (images : List (List Row)). expand images items) (images_of-added stored more)
    ∙ expand-more (images_of stored) (images_added (images_of stored) more) items (RefersBelow-links stored items links)

-- ---- a link to the newest stored items

flat_map-map : (images : List (List Row)) (items : List Item)
    → flat_map (λ (rows : List Row). rows) (map (image images) items) ≡ expand images items
flat_map-map images [] = refl
flat_map-map images (item ∷ items) = ap (λ (rows : List Row). image images item ++ rows) (flat_map-map images items)

-- it has their nodes
pub range_rows-newest : (stored moved : List Item) (link : Link) → All (IsLinkItem stored) moved
    → link.start ≡ length stored
    → link.len ≡ length moved → range_rows (images_of (stored ++ moved)) link ≡ expand (images_of stored) moved
range_rows-newest stored moved link links start len =
    let images = images_of stored in
    let added = images_added-map images [] moved (RefersBelow-links stored moved links) in
    let plain = ap (λ (xs : List (List Row)). images_added xs moved) (append-nil images) in
    let all : images_of (stored ++ moved) ≡ images ++ map (image images) moved =
    images_of-added stored moved ∙ ap (λ (xs : List (List Row)). images ++ xs) (sym plain ∙ added) in
    let dropped : drop link.start (images ++ map (image images) moved) ≡ map (image images) moved =
    drop_at images (map (image images) moved) link.start (images_of-length stored ∙ sym start) in
    let short : length (map (image images) moved) ≤ link.len = omega (arith, length-map moved (image images)) in
    ap (λ (xs : List (List Row)). range_rows xs link) all
    ∙ ap (λ (xs : List (List Row)). flat_map (λ (rows : List Row). rows) (take link.len xs)) dropped
    ∙ ap (flat_map (λ (rows : List Row). rows)) (take_all link.len (map (image images) moved) short)
    ∙ flat_map-map images moved
