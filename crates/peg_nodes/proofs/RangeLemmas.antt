-- The stack of ranges that wait to be expanded.
use Rattle.std.proofs.Common.{◌≡◌, ◌⊎◌, inl, inr, ℕ, zero, suc, ◌+◌, ◌-◌, ◌*◌, ◌^◌, ◌<◌, ◌≤◌, List, [], ◌∷◌, ◌++◌}
use Rattle.std.proofs.Common.{length, take, drop, get_or, sym, ◌∙◌, ap, subst, arith, append_assoc, append-nil}
use Rattle.std.specs.List.{flat_map}
use Rattle.std.proofs.lemmas.Bool.{cases_lt}
use Rattle.std.proofs.lemmas.Bool.Decides.{nat_tests}
use Rattle.std.proofs.lemmas.List.{length_push, drop_more, get_or_at}
use Rattle.std.proofs.lemmas.Nat.{pow_pos}
use Rattle.std.proofs.Math.Pow.{pow_mono}
use Rattle.std.proofs.Math.Nat.{pow-succ'}
use Rattle.peg_tree.specs.Rows.{Row, row_of}
use Rattle.peg_tree.specs.declared.row.TreeNode.{TreeNode}
use Rattle.peg_nodes.specs.Expansion.{range_rows, image, images_after, images_of}
use Rattle.peg_nodes.specs.Invariant.{RefersBelow, RefersBack}
use Rattle.peg_nodes.specs.Ranges.{with_range, rows_between, waiting_rows, AreWaiting, work_of}
use Rattle.peg_nodes.specs.declared.expand.Waiting.{Waiting}
use Rattle.peg_nodes.specs.declared.item.Link.{Link}
use Rattle.peg_nodes.specs.declared.item.Item.{Item}
use Rattle.peg_nodes.specs.declared.item.Item.TheVariants.{Node, Stored}
use Rattle.peg_nodes.proofs.ImageLemmas.{image-more, images_of-length, images_after-added, images_added}

-- ---- pushes and pops

waiting_rows-push : (images : List (List Row)) (ranges : List Waiting) (range : Waiting)
    → waiting_rows images (ranges ++ range ∷ []) ≡ rows_between images range.next range.end ++ waiting_rows images
    ranges
waiting_rows-push images [] range = sym (append-nil (rows_between images range.next range.end))
waiting_rows-push images (first ∷ ranges) range =
    let rest = waiting_rows-push images ranges range in
    let last = rows_between images first.next first.end in
    ap (λ (rows : List Row). rows ++ last) rest
    ∙ append_assoc (rows_between images range.next range.end) (waiting_rows images ranges) last

work_of-push : (ranges : List Waiting) (range : Waiting)
    → work_of (ranges ++ range ∷ []) ≡ work_of ranges + (1 + (3 * 2 ^ range.end - 3 * 2 ^ range.next))
work_of-push [] range = omega arith
work_of-push (first ∷ ranges) range = let rest = work_of-push ranges range in omega arith

AreWaiting-push : (stored : ℕ) (ranges : List Waiting) (range : Waiting) → AreWaiting stored ranges
    → range.next < range.end → range.end ≤ stored
    → AreWaiting stored (ranges ++ range ∷ [])
AreWaiting-push stored [] range waiting some within = (some, within, tt)
AreWaiting-push stored (first ∷ ranges) range waiting some within =
    (waiting.0, waiting.1, AreWaiting-push stored ranges range waiting.2 some within)

pub AreWaiting-pop : (stored : ℕ) (ranges : List Waiting) (range : Waiting) → AreWaiting stored (ranges ++ range ∷ [])
    → AreWaiting stored ranges × (range.next < range.end) × (range.end ≤ stored)
AreWaiting-pop stored [] range waiting = (tt, waiting.0, waiting.1)
AreWaiting-pop stored (first ∷ ranges) range waiting =
    let rest = AreWaiting-pop stored ranges range waiting.2 in ((waiting.0, waiting.1, rest.0), rest.1, rest.2)

-- ---- a push that leaves out an empty range

with_range-some : (ranges : List Waiting) (next end : ℕ) → next < end
    → with_range ranges next end ≡ ranges ++ record { next = next; end = end } ∷ []
with_range-some ranges next end some = grind (arith, nat_tests)

with_range-none : (ranges : List Waiting) (next end : ℕ) → end ≤ next → with_range ranges next end ≡ ranges
with_range-none ranges next end none = grind (arith, nat_tests)

pub AreWaiting-with : (stored : ℕ) (ranges : List Waiting) (next end : ℕ) → AreWaiting stored ranges → end ≤ stored
    → AreWaiting stored (with_range ranges next end)
AreWaiting-with stored ranges next end waiting within = by (cases_lt next end)
  where
    by : (next < end) ⊎ (end ≤ next) → AreWaiting stored (with_range ranges next end)
    by (inl some) =
        subst (AreWaiting stored) (sym (with_range-some ranges next end some))
        (AreWaiting-push stored ranges (record { next = next; end = end }) waiting some within)
    by (inr none) = subst (AreWaiting stored) (sym (with_range-none ranges next end none)) waiting

pub waiting_rows-with : (images : List (List Row)) (ranges : List Waiting) (next end : ℕ)
    → waiting_rows images (with_range ranges next end) ≡ rows_between images next end ++ waiting_rows images ranges
waiting_rows-with images ranges next end = by (cases_lt next end)
  where
    by : (next < end) ⊎ (end ≤ next)
        → waiting_rows images (with_range ranges next end) ≡ rows_between images next end ++ waiting_rows images ranges
    by (inl some) =
        ap (waiting_rows images) (with_range-some ranges next end some)
        ∙ waiting_rows-push images ranges (record { next = next; end = end })
    by (inr none) =
        let zero_long : end - next ≡ 0 = omega arith in
        let empty : rows_between images next end ≡ [] =
        ap (λ (n : ℕ). flat_map (λ (rows : List Row). rows) (take n (drop next images))) zero_long in
        ap (waiting_rows images) (with_range-none ranges next end none)
        ∙ ap (λ (rows : List Row). rows ++ waiting_rows images ranges) (sym empty)

pub work_of-with : (ranges : List Waiting) (next end : ℕ)
    → work_of (with_range ranges next end) ≤ work_of ranges + (1 + (3 * 2 ^ end - 3 * 2 ^ next))
work_of-with ranges next end = by (cases_lt next end)
  where
    by : (next < end) ⊎ (end ≤ next)
        → work_of (with_range ranges next end) ≤ work_of ranges + (1 + (3 * 2 ^ end - 3 * 2 ^ next))
    by (inl some) = omega (arith, ap work_of (with_range-some ranges next end some), work_of-push ranges (record { next = next; end = end }))
    by (inr none) = omega (arith, ap work_of (with_range-none ranges next end none))

-- ---- the nodes of a stored item

refers_at : (older : ℕ) (stored : List Item) (i : ℕ) (d : Item) → RefersBack older stored → i < length stored
    → RefersBelow (older + i) (get_or stored i d)
refers_at older [] i d back within = elim within [ ]
refers_at older (item ∷ stored) zero d back within =
    subst (λ (n : ℕ). RefersBelow n item) (omega arith) back.0
refers_at older (item ∷ stored) (suc i) d back within =
    subst (λ (n : ℕ). RefersBelow n (get_or stored i d)) (omega arith)
    (refers_at (older + 1) stored i d back.1 (omega arith))

image_at : (images : List (List Row)) (items : List Item) (i : ℕ) (d : Item) (e : List Row)
    → RefersBack (length images) items → i < length items
    → get_or (images_after images items) (length images + i) e ≡ image (images_after images items) (get_or items i d)
image_at images [] i d e back within = elim within [ ]
image_at images (item ∷ items) zero d e back within =
    let last : List (List Row) = image images item ∷ [] in
    let added = images_added (images ++ last) items in
    let all : images_after (images ++ last) items ≡ images ++ (image images item ∷ added) =
    images_after-added (images ++ last) items ∙ append_assoc images last added in
    ap (λ (xs : List (List Row)). get_or xs (length images + 0) e) all
    ∙ get_or_at images (image images item) added e (length images + 0) (omega arith)
    ∙ sym (image-more images (image images item ∷ added) item back.0)
    ∙ ap (λ (xs : List (List Row)). image xs item) (sym all)
image_at images (item ∷ items) (suc i) d e back within =
    let last : List (List Row) = image images item ∷ [] in
    let long : length (images ++ last) ≡ length images + 1 = length_push images (image images item) in
    let back : RefersBack (length (images ++ last)) items = subst (λ (n : ℕ). RefersBack n items) (sym long) back.1 in
    let index : length images + suc i ≡ length (images ++ last) + i = omega arith in
    ap (λ (n : ℕ). get_or (images_after (images ++ last) items) n e) index
    ∙ image_at (images ++ last) items i d e back (omega arith)

-- the nodes of a range: those of its first item, and those of the rest
pub rows_between-first : (stored : List Item) (next end : ℕ) (item : Item) → RefersBack 0 stored → next < end
    → end ≤ length stored → item ≡ get_or stored next item
    → rows_between (images_of stored) next end ≡ image (images_of stored) item ++ rows_between (images_of stored)
    (next + 1) end
rows_between-first stored next end item back some within is_item =
    let images = images_of stored in
    let long : next < length images = omega (arith, images_of-length stored) in
    let first = drop_more images next [] long in
    let count : end - next ≡ suc (end - (next + 1)) = omega arith in
    let at : get_or images next [] ≡ image images item =
    ap (λ (n : ℕ). get_or images n []) (omega arith) ∙ image_at [] stored next item [] back (omega arith)
    ∙ ap (image images) (sym is_item) in
    ap (λ (n : ℕ). flat_map (λ (rows : List Row). rows) (take n (drop next images))) count
    ∙ ap (λ (xs : List (List Row)). flat_map (λ (rows : List Row). rows) (take (suc (end - (next + 1))) xs)) first
    ∙ ap (λ (rows : List Row). rows ++ rows_between images (next + 1) end) at

-- a link at `next` refers to items before it
pub link_within : (stored : List Item) (next : ℕ) (link : Link) → RefersBack 0 stored → next < length stored
    → Stored link ≡ get_or stored next (Stored link)
    → link.start + link.len ≤ next
link_within stored next link back within is_item =
    let at : 0 + next ≡ next = omega arith in
    subst (λ (n : ℕ). link.start + link.len ≤ n) at
    (subst (RefersBelow (0 + next)) (sym is_item) (refers_at 0 stored next (Stored link) back within))

-- ---- one step

pub record Step (stored : List Item) (popped : List Waiting) (range : Waiting) (item : Item) : Type 0 where
  pub back : RefersBack 0 stored
  pub waiting : AreWaiting (length stored) popped
  pub some : range.next < range.end
  pub within : range.end ≤ length stored
  pub is_item : item ≡ get_or stored range.next item

pub node_rows : (stored : List Item) (popped : List Waiting) (range : Waiting) (node : TreeNode)
    → Step stored popped range (Node node)
    → waiting_rows (images_of stored) (popped ++ range ∷ []) ≡ row_of node ∷ waiting_rows (images_of stored)
    (with_range popped (range.next + 1) range.end)
node_rows stored popped range node step =
    let images = images_of stored in
    waiting_rows-push images popped range
    ∙ ap (λ (rows : List Row). rows ++ waiting_rows images popped)
    (rows_between-first stored range.next range.end (Node node) step.back step.some step.within step.is_item)
    ∙ ap (λ (rows : List Row). row_of node ∷ rows) (sym (waiting_rows-with images popped (range.next + 1) range.end))

pub link_rows : (stored : List Item) (popped : List Waiting) (range : Waiting) (link : Link)
    → Step stored popped range (Stored link)
    → waiting_rows (images_of stored) (popped ++ range ∷ [])
    ≡ waiting_rows (images_of stored)
    (with_range (with_range popped (range.next + 1) range.end) link.start (link.start + link.len))
link_rows stored popped range link step =
    let images = images_of stored in
    let rest = with_range popped (range.next + 1) range.end in
    let later = rows_between images (range.next + 1) range.end in
    let long : link.len ≡ link.start + link.len - link.start = omega arith in
    let whole : range_rows images link ≡ rows_between images link.start (link.start + link.len) =
    ap (λ (n : ℕ). flat_map (λ (rows : List Row). rows) (take n (drop link.start images))) long in
    waiting_rows-push images popped range
    ∙ ap (λ (rows : List Row). rows ++ waiting_rows images popped)
    (rows_between-first stored range.next range.end (Stored link) step.back step.some step.within step.is_item)
    ∙ append_assoc (range_rows images link) later (waiting_rows images popped)
    ∙ ap (λ (rows : List Row). range_rows images link ++ rows)
    (sym (waiting_rows-with images popped (range.next + 1) range.end))
    ∙ ap (λ (rows : List Row). rows ++ waiting_rows images rest) whole
    ∙ sym (waiting_rows-with images rest link.start (link.start + link.len))

pub range_rows-pushed : (images : List (List Row)) (link : Link)
    → waiting_rows images (with_range [] link.start (link.start + link.len)) ≡ range_rows images link
range_rows-pushed images link =
    let long : link.start + link.len - link.start ≡ link.len = omega arith in
    waiting_rows-with images [] link.start (link.start + link.len)
    ∙ append-nil (rows_between images link.start (link.start + link.len))
    ∙ ap (λ (n : ℕ). flat_map (λ (rows : List Row). rows) (take n (drop link.start images))) long

double : (n : ℕ) → 2 ^ (n + 1) ≡ 2 * 2 ^ n
double n = ap (λ (k : ℕ). 2 ^ k) (omega arith) ∙ pow-succ' 2 n

pub node_work : (stored : List Item) (popped : List Waiting) (range : Waiting) (node : TreeNode)
    → Step stored popped range (Node node)
    → work_of (with_range popped (range.next + 1) range.end) < work_of (popped ++ range ∷ [])
node_work stored popped range node step =
    let some = step.some in
    let later : 2 ^ (range.next + 1) ≤ 2 ^ range.end = pow_mono (omega arith) in
    omega (arith, work_of-push popped range, work_of-with popped (range.next + 1) range.end, double range.next, pow_pos range.next)

pub link_work : (stored : List Item) (popped : List Waiting) (range : Waiting) (link : Link)
    → Step stored popped range (Stored link)
    → work_of (with_range (with_range popped (range.next + 1) range.end) link.start (link.start + link.len)) < work_of
    (popped ++ range ∷ [])
link_work stored popped range link step =
    let some = step.some in
    let within = step.within in
    let refers = link_within stored range.next link step.back (omega arith) step.is_item in
    let later : 2 ^ (range.next + 1) ≤ 2 ^ range.end = pow_mono (omega arith) in
    let older : 2 ^ (link.start + link.len) ≤ 2 ^ range.next = pow_mono refers in
    let rest = with_range popped (range.next + 1) range.end in
    omega (
      arith,
      work_of-push popped range,
      work_of-with popped (range.next + 1) range.end,
      work_of-with rest link.start (link.start + link.len),
      double range.next,
      pow_pos range.next,
      pow_pos link.start,
    )
