-- Lists without links.
use Rattle.std.proofs.Common.{◌≡◌, ℕ, zero, suc, ◌+◌, ◌<◌, ◌≤◌, List, [], ◌∷◌, ◌++◌, length, take, drop, get_or, set}
use Rattle.std.proofs.Common.{map, refl, sym, ◌∙◌, ap, subst, arith, append_assoc, length-append, length-take}
use Rattle.std.proofs.Common.{length-drop, take-append-drop}
use Rattle.std.specs.List.{All}
use Rattle.std.proofs.lemmas.List.{length-map, length-take-le, take_all, take_at, drop_at, take-map, drop-map}
use Rattle.std.proofs.lemmas.List.{map-append, map_push, drop_more, take_more, get_or_at, set_at}
use Rattle.std.proofs.lemmas.List.Elements.{All-nil, All-cons, All-head, All-tail}
use Rattle.peg_tree.specs.Rows.{Row, row_of}
use Rattle.peg_tree.specs.declared.row.TreeNode.{TreeNode}
use Rattle.peg_nodes.specs.Expansion.{range_rows, images_of, expand}
use Rattle.peg_nodes.specs.OpenNodes.{AreClosed}
use Rattle.peg_nodes.specs.Places.{flat_place}
use Rattle.peg_nodes.specs.Linked.{linked, KeepsCuts}
use Rattle.peg_nodes.specs.Invariant.{IsClosedItem, IsLinkItem, count_of, open_at, opened_from, IsSound}
use Rattle.peg_nodes.specs.declared.item.OpenNode.{OpenNode}
use Rattle.peg_nodes.specs.declared.item.Item.{Item}
use Rattle.peg_nodes.specs.declared.item.Item.TheVariants.{Node, Stored}
use Rattle.peg_nodes.proofs.CountLemmas.{count_of-exact, expand-longer}
use Rattle.peg_nodes.proofs.OpenLemmas.{opened_from-append, opened_from-closed, closed_items, closed_link}

pub expand-flat : (images : List (List Row)) (nodes : List TreeNode) → expand images (map Node nodes) ≡ map row_of nodes
expand-flat images [] = refl
expand-flat images (node ∷ nodes) = ap (λ (rows : List Row). row_of node ∷ rows) (expand-flat images nodes)

count_of-flat : (nodes : List TreeNode) → count_of (map Node nodes) ≡ length nodes
count_of-flat [] = refl
count_of-flat (node ∷ nodes) = omega (arith, count_of-flat nodes)

links-flat : (stored : List Item) (nodes : List TreeNode) → All (IsLinkItem stored) (map Node nodes)
links-flat stored [] = All-nil (IsLinkItem stored)
links-flat stored (node ∷ nodes) = All-cons (IsLinkItem stored) (Node node) (map Node nodes) tt
    (links-flat stored nodes)

-- ---- places

flat_open_at : (i n size : ℕ) → open_at n n size ≡ map flat_place (open_at i n size)
flat_open_at i n zero = refl
flat_open_at i n (suc size) = refl

-- the next place
pub flat_more : (old now : List OpenNode) (i : ℕ) (d : OpenNode) → now ≡ map flat_place (take i old) ++ drop i old
    → i < length now
    → set now i (flat_place (get_or now i d)) ≡ map flat_place (take (i + 1) old) ++ drop (i + 1) old
flat_more old now i d so_far within =
    let first = map flat_place (take i old) in
    let same : length now ≡ length old =
    omega (arith, ap length so_far, length-append first (drop i old), length-map (take i old) flat_place, length-take i old, length-drop i old) in
    let below : i < length old = omega arith in
    let long : length first ≡ i = omega (arith, length-map (take i old) flat_place, length-take i old) in
    let place = get_or old i d in
    let parts : now ≡ first ++ place ∷ drop (i + 1) old =
    so_far ∙ ap (λ (xs : List OpenNode). first ++ xs) (drop_more old i d below) in
    let at : get_or now i d ≡ place =
    ap (λ (xs : List OpenNode). get_or xs i d) parts ∙ get_or_at first place (drop (i + 1) old) d i long in
    let more : map flat_place (take (i + 1) old) ≡ first ++ flat_place place ∷ [] =
    ap (map flat_place) (take_more old i d below) ∙ map_push flat_place (take i old) place in
    ap (λ (x : OpenNode). set now i (flat_place x)) at
    ∙ ap (λ (xs : List OpenNode). set xs i (flat_place place)) parts
    ∙ set_at first place (drop (i + 1) old) (flat_place place) i long
    ∙ sym (append_assoc first (flat_place place ∷ []) (drop (i + 1) old))
    ∙ ap (λ (xs : List OpenNode). xs ++ drop (i + 1) old) (sym more)

-- the same nodes have the same places among the nodes
flat_places : (stored : List Item) → All IsClosedItem stored → (i n : ℕ) (items : List Item) (nodes : List TreeNode)
    → All (IsLinkItem stored) items
    → map row_of nodes ≡ expand (images_of stored) items
    → opened_from n n (map Node nodes) ≡ map flat_place (opened_from i n items)
flat_places stored closed i n [] [] links same = refl
flat_places stored closed i n [] (first ∷ nodes) links same = absurd (omega (arith, ap length same))
flat_places stored closed i n (Node node ∷ items) [] links same = absurd (omega (arith, ap length same))
flat_places stored closed i n (Node node ∷ items) (first ∷ nodes) links same =
    let row : row_of first ≡ row_of node = cc in
    let size : first.size ≡ node.size = ap (λ (r : Row). r.size) row in
    let tails : map row_of nodes ≡ expand (images_of stored) items = cc in
    let rest =
    flat_places stored closed (i + 1) (n + 1) items nodes (All-tail (IsLinkItem stored) (Node node) items links)
    tails in
    ap (λ (k : ℕ). open_at n n k ++ opened_from (n + 1) (n + 1) (map Node nodes)) size
    ∙ ap (λ (xs : List OpenNode). xs ++ opened_from (n + 1) (n + 1) (map Node nodes)) (flat_open_at i n node.size)
    ∙ ap (λ (xs : List OpenNode). map flat_place (open_at i n node.size) ++ xs) rest
    ∙ sym (map-append flat_place (open_at i n node.size) (opened_from (i + 1) (n + 1) items))
flat_places stored closed i n (Stored link ∷ items) nodes links same =
    let is_link = All-head (IsLinkItem stored) (Stored link) items links in
    let counted = is_link.counted in
    let range = range_rows (images_of stored) link in
    let later = expand (images_of stored) items in
    let first = take link.count nodes in
    let second = drop link.count nodes in
    let first_rows : map row_of first ≡ range =
    sym (take-map row_of link.count nodes) ∙ ap (take link.count) same
    ∙ take_at range later link.count (sym counted) in
    let second_rows : map row_of second ≡ later =
    sym (drop-map row_of link.count nodes) ∙ ap (drop link.count) same
    ∙ drop_at range later link.count (sym counted) in
    let first_long : length (map Node first) ≡ link.count =
    omega (arith, ap length first_rows, length-map first row_of, length-map first Node) in
    let first_count : count_of (map Node first) ≡ link.count =
    omega (arith, count_of-flat first, length-map first Node) in
    let first_closed : All IsClosedItem (map Node first) =
    closed_items (images_of stored) (map Node first)
    (subst AreClosed (sym (expand-flat (images_of stored) first ∙ first_rows)) (closed_link stored link closed)) in
    let none = opened_from-closed n n (map Node first) first_closed in
    let parts : map Node nodes ≡ map Node first ++ map Node second =
    ap (map Node) (sym (take-append-drop link.count nodes)) ∙ map-append Node first second in
    let rest =
    flat_places stored closed (i + 1) (n + link.count) items second
    (All-tail (IsLinkItem stored) (Stored link) items links) second_rows in
    ap (opened_from n n) parts
    ∙ opened_from-append n n (map Node first) (map Node second)
    ∙ ap (λ (xs : List OpenNode). xs ++ opened_from (n + length (map Node first)) (n + count_of (map Node first)) (map Node second)) none
    ∙ ap (λ (k : ℕ). opened_from (n + k) (n + count_of (map Node first)) (map Node second)) first_long
    ∙ ap (λ (k : ℕ). opened_from (n + link.count) (n + k) (map Node second)) first_count
    ∙ rest

-- ---- flatten

pub IsSound-flat : (items stored : List Item) (opened : List OpenNode) (count : ℕ) (nodes : List TreeNode)
    → IsSound items stored opened count
    → map row_of nodes ≡ expand (images_of stored) items → IsSound (map Node nodes) [] (map flat_place opened) count
IsSound-flat items stored opened count nodes sound same = record {
  older = tt;
  are_closed = All-nil IsClosedItem;
  links = links-flat [] nodes;
  places = ap (map flat_place) sound.places
      ∙ sym (flat_places stored sound.are_closed 0 0 items nodes sound.links same);
  counted =
      let counted = sound.counted in
      omega (arith, count_of-exact stored items sound.links, ap length same, length-map nodes row_of, count_of-flat nodes);
  few = sound.few;
}

pub KeepsCuts-flat : (items stored : List Item) (nodes : List TreeNode)
    → map row_of nodes ≡ expand (images_of stored) items
    → KeepsCuts (linked items stored) (linked (map Node nodes) [])
KeepsCuts-flat items stored nodes same count cut =
    let within = cut.within in
    let counted = cut.counted in
    let longer = expand-longer (images_of stored) items cut.kept (length items) within in
    let whole =
    ap (λ (xs : List Item). length (expand (images_of stored) xs)) (take_all (length items) items (omega arith)) in
    let few : count ≤ length nodes = omega (arith, ap length same, length-map nodes row_of) in
    record {
      kept = count;
      within = omega (arith, length-map nodes Node);
      counted = ap (λ (xs : List Item). length (expand [] xs)) (take-map Node count nodes)
          ∙ ap length (expand-flat [] (take count nodes)) ∙ length-map (take count nodes) row_of
          ∙ length-take-le count nodes few;
    }
