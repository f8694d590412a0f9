-- The open nodes among items.
use Rattle.std.proofs.Common.{◌≡◌, ◌≢◌, ℕ, zero, suc, ◌+◌, List, [], ◌∷◌, ◌++◌, length, take, drop, refl, sym, ◌∙◌}
use Rattle.std.proofs.Common.{ap, subst, arith, append_assoc, length-append}
use Rattle.std.specs.List.{All, flat_map}
use Rattle.std.proofs.lemmas.List.{take_at, drop_at}
use Rattle.std.proofs.lemmas.List.Elements.{All-nil, All-cons, All-head, All-tail, All-append, All-push, All-take}
use Rattle.std.proofs.lemmas.List.Elements.{All-drop}
use Rattle.peg_tree.specs.Rows.{Row, row_of}
use Rattle.peg_tree.specs.declared.row.TreeNode.{TreeNode}
use Rattle.peg_nodes.specs.Expansion.{range_rows, image, images_after, images_of, expand}
use Rattle.peg_nodes.specs.OpenNodes.{AreClosed}
use Rattle.peg_nodes.specs.Invariant.{IsClosedItem, count_of, open_at, opened_from}
use Rattle.peg_nodes.specs.declared.item.Link.{Link}
use Rattle.peg_nodes.specs.declared.item.OpenNode.{OpenNode}
use Rattle.peg_nodes.specs.declared.item.Item.{Item}
use Rattle.peg_nodes.specs.declared.item.Item.TheVariants.{Node, Stored}

-- ---- the places of open nodes

opened_from-at : (i j n m : ℕ) (items : List Item) → i ≡ j → n ≡ m → opened_from i n items ≡ opened_from j m items
opened_from-at i j n m items item before = cc

pub opened_from-append : (i n : ℕ) (items more : List Item)
    → opened_from i n (items ++ more) ≡ opened_from i n items ++ opened_from (i + length items) (n + count_of items)
    more
opened_from-append i n [] more = opened_from-at i (i + 0) n (n + 0) more (omega arith) (omega arith)
opened_from-append i n (Node node ∷ items) more =
    let places = open_at i n node.size in
    let later = opened_from (i + 1) (n + 1) items in
    let rest = opened_from-append (i + 1) (n + 1) items more in
    let at : opened_from (i + 1 + length items) (n + 1 + count_of items) more ≡ opened_from (i + suc (length items))
    (n + (1 + count_of items)) more =
    opened_from-at (i + 1 + length items) (i + suc (length items)) (n + 1 + count_of items) (n + (1 + count_of items))
    more (omega arith) (omega arith) in
    ap (λ (xs : List OpenNode). places ++ xs) (rest ∙ ap (λ (xs : List OpenNode). later ++ xs) at)
    ∙ sym (append_assoc places later (opened_from (i + suc (length items)) (n + (1 + count_of items)) more))
opened_from-append i n (Stored link ∷ items) more =
    let later = opened_from (i + 1) (n + link.count) items in
    let rest = opened_from-append (i + 1) (n + link.count) items more in
    let at : opened_from (i + 1 + length items) (n + link.count + count_of items) more ≡ opened_from
    (i + suc (length items)) (n + (link.count + count_of items)) more =
    opened_from-at (i + 1 + length items) (i + suc (length items)) (n + link.count + count_of items)
    (n + (link.count + count_of items)) more (omega arith) (omega arith) in
    rest ∙ ap (λ (xs : List OpenNode). later ++ xs) at

pub open_at-closed : (i n size : ℕ) → size ≢ 0 → open_at i n size ≡ []
open_at-closed i n zero closed = absurd (closed refl)
open_at-closed i n (suc size) closed = refl

pub open_at-open : (i n size : ℕ) → size ≡ 0 → open_at i n size ≡ record { item = i; before = n } ∷ []
open_at-open i n size is_open = ap (open_at i n) is_open

pub opened_from-closed : (i n : ℕ) (items : List Item) → All IsClosedItem items → opened_from i n items ≡ []
opened_from-closed i n [] closed = refl
opened_from-closed i n (Node node ∷ items) closed =
    let first = open_at-closed i n node.size (All-head IsClosedItem (Node node) items closed) in
    let rest = opened_from-closed (i + 1) (n + 1) items (All-tail IsClosedItem (Node node) items closed) in
    ap (λ (xs : List OpenNode). xs ++ opened_from (i + 1) (n + 1) items) first ∙ rest
opened_from-closed i n (Stored link ∷ items) closed =
    opened_from-closed (i + 1) (n + link.count) items (All-tail IsClosedItem (Stored link) items closed)

-- ---- closed nodes

pub All-left : {X : Type 0} (P : X → Type 0) (xs ys : List X) → All P (xs ++ ys) → All P xs
All-left P xs ys all = subst (All P) (take_at xs ys (length xs) refl) (All-take P (length xs) (xs ++ ys) all)

pub All-right : {X : Type 0} (P : X → Type 0) (xs ys : List X) → All P (xs ++ ys) → All P ys
All-right P xs ys all = subst (All P) (drop_at xs ys (length xs) refl) (All-drop P (length xs) (xs ++ ys) all)

-- items whose nodes are closed are closed
pub closed_items : (images : List (List Row)) (items : List Item) → AreClosed (expand images items)
    → All IsClosedItem items
closed_items images [] closed = All-nil IsClosedItem
closed_items images (Node node ∷ items) closed =
    All-cons IsClosedItem (Node node) items
    (All-head (λ (row : Row). row.size ≢ 0) (row_of node) (expand images items) closed)
    (closed_items images items (All-tail (λ (row : Row). row.size ≢ 0) (row_of node) (expand images items) closed))
closed_items images (Stored link ∷ items) closed =
    All-cons IsClosedItem (Stored link) items tt
    (closed_items images items (All-right (λ (row : Row). row.size ≢ 0) (range_rows images link) (expand images items) closed))

closed_lists : (images : List (List Row)) → All AreClosed images
    → AreClosed (flat_map (λ (rows : List Row). rows) images)
closed_lists [] closed = All-nil (λ (row : Row). row.size ≢ 0)
closed_lists (rows ∷ images) closed =
    All-append (λ (row : Row). row.size ≢ 0) rows (flat_map (λ (rows : List Row). rows) images)
    (All-head AreClosed rows images closed) (closed_lists images (All-tail AreClosed rows images closed))

closed_range : (images : List (List Row)) (link : Link) → All AreClosed images → AreClosed (range_rows images link)
closed_range images link closed =
    closed_lists (take link.len (drop link.start images))
    (All-take AreClosed link.len (drop link.start images) (All-drop AreClosed link.start images closed))

closed_image : (images : List (List Row)) (item : Item) → All AreClosed images → IsClosedItem item
    → AreClosed (image images item)
closed_image images (Node node) images_closed closed =
    All-cons (λ (row : Row). row.size ≢ 0) (row_of node) [] closed (All-nil (λ (row : Row). row.size ≢ 0))
closed_image images (Stored link) images_closed closed = closed_range images link images_closed

closed_images : (images : List (List Row)) (items : List Item) → All AreClosed images → All IsClosedItem items
    → All AreClosed (images_after images items)
closed_images images [] images_closed closed = images_closed
closed_images images (item ∷ items) images_closed closed =
    closed_images (images ++ image images item ∷ []) items
    (All-push AreClosed images (image images item) images_closed
    (closed_image images item images_closed (All-head IsClosedItem item items closed)))
    (All-tail IsClosedItem item items closed)

-- the nodes of a link are closed
pub closed_link : (stored : List Item) (link : Link) → All IsClosedItem stored
    → AreClosed (range_rows (images_of stored) link)
closed_link stored link closed = closed_range (images_of stored) link
    (closed_images [] stored (All-nil AreClosed) closed)

-- ---- the item of an open node

-- an open node after closed ones
record PastClosed (xs ys before after : List Row) (open_row : Row) : Type 0 where
  rest : List Row
  before_is : before ≡ xs ++ rest
  after_is : ys ≡ rest ++ open_row ∷ after

past_closed : (xs ys before after : List Row) (open_row : Row) → AreClosed xs → xs ++ ys ≡ before ++ open_row ∷ after
    → open_row.size ≡ 0
    → PastClosed xs ys before after open_row
past_closed [] ys before after open_row closed same is_open = record
    { rest = before; before_is = refl; after_is = same }
past_closed (x ∷ xs) ys [] after open_row closed same is_open =
    let first : x ≡ open_row = cc in
    absurd (All-head (λ (row : Row). row.size ≢ 0) x xs closed (ap (λ (row : Row). row.size) first ∙ is_open))
past_closed (x ∷ xs) ys (b ∷ before) after open_row closed same is_open =
    let first : x ≡ b = cc in
    let tails : xs ++ ys ≡ before ++ open_row ∷ after = cc in
    let past =
    past_closed xs ys before after open_row (All-tail (λ (row : Row). row.size ≢ 0) x xs closed) tails is_open in
    let more : before ≡ xs ++ past.rest = past.before_is in
    record { rest = past.rest; before_is = cc; after_is = past.after_is }

-- the items before and after an open node
pub record OpenItem (images : List (List Row)) (items : List Item) (before after : List Row) : Type 0 where
  pub first : List Item
  pub node : TreeNode
  pub last : List Item
  pub parts : items ≡ first ++ Node node ∷ last
  pub before_is : expand images first ≡ before
  pub after_is : expand images last ≡ after
  pub is_open : node.size ≡ 0

-- an open node is an item, since the nodes of links are closed
pub open_item : (images : List (List Row)) → ((link : Link) → AreClosed (range_rows images link))
    → (items : List Item) (before after : List Row) (open_row : Row)
    → expand images items ≡ before ++ open_row ∷ after → open_row.size ≡ 0 → OpenItem images items before after
open_item images closed [] before after open_row same is_open =
    absurd (omega (arith, ap length same, length-append before (open_row ∷ after)))
open_item images closed (Node node ∷ items) [] after open_row same is_open =
    let row : row_of node ≡ open_row = cc in
    record {
      first = [];
      node = node;
      last = items;
      parts = refl;
      before_is = refl;
      after_is = cc;
      is_open = ap (λ (row : Row). row.size) row ∙ is_open;
    }
open_item images closed (Node node ∷ items) (b ∷ before) after open_row same is_open =
    let row : row_of node ≡ b = cc in
    let tails : expand images items ≡ before ++ open_row ∷ after = cc in
    let found = open_item images closed items before after open_row tails is_open in
    let earlier = found.before_is in
    record {
      first = Node node ∷ found.first;
      node = found.node;
      last = found.last;
      parts = ap (λ (xs : List Item). Node node ∷ xs) found.parts;
      before_is = ap (λ (xs : List Row). row_of node ∷ xs) earlier ∙ ap (λ (row : Row). row ∷ before) row;
      after_is = found.after_is;
      is_open = found.is_open;
    }
open_item images closed (Stored link ∷ items) before after open_row same is_open =
    let past =
    past_closed (range_rows images link) (expand images items) before after open_row (closed link) same is_open in
    let found = open_item images closed items past.rest after open_row past.after_is is_open in
    record {
      first = Stored link ∷ found.first;
      node = found.node;
      last = found.last;
      parts = ap (λ (xs : List Item). Stored link ∷ xs) found.parts;
      before_is = ap (λ (xs : List Row). range_rows images link ++ xs) found.before_is ∙ sym past.before_is;
      after_is = found.after_is;
      is_open = found.is_open;
    }
