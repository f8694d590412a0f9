-- Numbers of nodes, and cuts.
use Rattle.std.proofs.Common.{◌≡◌, ◌⊎◌, inl, inr, ℕ, suc, ◌+◌, ◌-◌, ◌<◌, ◌≤◌, List, [], ◌∷◌, ◌++◌, get_or, length, take, drop, refl}
use Rattle.std.proofs.Common.{sym, ◌∙◌, ap, arith, length-append, take-append-drop}
use Rattle.std.specs.List.{All}
use Rattle.std.proofs.Math.Seq.{take-suc}
use Rattle.std.proofs.lemmas.Bool.{cases_lt}
use Rattle.std.proofs.lemmas.List.{take_at, drop_at, take-take, take-append-le, take_all}
use Rattle.std.proofs.lemmas.List.Concat.{flat_map-append}
use Rattle.std.proofs.lemmas.List.Elements.{All-head, All-tail}
use Rattle.peg_tree.specs.Rows.{Row}
use Rattle.peg_nodes.specs.Expansion.{image, images_of, expand}
use Rattle.peg_nodes.specs.Linked.{linked, IsCut, KeepsCuts}
use Rattle.peg_nodes.specs.Invariant.{IsLinkItem, item_count, count_of}
use Rattle.peg_nodes.specs.declared.item.Item.{Item}
use Rattle.peg_nodes.specs.declared.item.Item.TheVariants.{Node, Stored}

item_count-exact : (stored : List Item) (item : Item) → IsLinkItem stored item
    → item_count item ≡ length (image (images_of stored) item)
item_count-exact stored (Node node) is_link = refl
item_count-exact stored (Stored link) is_link = is_link.counted

-- the counts of links are exact
pub count_of-exact : (stored items : List Item) → All (IsLinkItem stored) items
    → count_of items ≡ length (expand (images_of stored) items)
count_of-exact stored [] links = refl
count_of-exact stored (item ∷ items) links =
    let first = item_count-exact stored item (All-head (IsLinkItem stored) item items links) in
    let rest = count_of-exact stored items (All-tail (IsLinkItem stored) item items links) in
    omega (arith, length-append (image (images_of stored) item) (expand (images_of stored) items))

pub count_of-append : (items more : List Item) → count_of (items ++ more) ≡ count_of items + count_of more
count_of-append [] more = omega arith
count_of-append (item ∷ items) more = omega (arith, count_of-append items more)

-- ---- the nodes of some of the items

-- the nodes of the items up to one of them, and of this one
pub count_of-next : (items : List Item) (index : ℕ) (item : Item) → 0 < index → index ≤ length items
    → item ≡ get_or items (index - 1) item
    → count_of (take index items) ≡ count_of (take (index - 1) items) + item_count item
count_of-next items index item some within is =
    let next : index ≡ suc (index - 1) = omega arith in
    ap (λ n. count_of (take n items)) next
    ∙ ap count_of (take-suc items (index - 1) item (omega arith))
    ∙ count_of-append (take (index - 1) items) (get_or items (index - 1) item ∷ [])
    ∙ ap (λ (i : Item). count_of (take (index - 1) items) + (item_count i + 0)) (sym is)
    ∙ omega arith

-- the nodes of the first items, and those of the others
pub expand-split : (images : List (List Row)) (items : List Item) (kept : ℕ)
    → expand images items ≡ expand images (take kept items) ++ expand images (drop kept items)
expand-split images items kept =
    ap (expand images) (sym (take-append-drop kept items))
    ∙ flat_map-append (image images) (take kept items) (drop kept items)

pub expand-take : (images : List (List Row)) (items : List Item) (kept count : ℕ)
    → length (expand images (take kept items)) ≡ count
    → take count (expand images items) ≡ expand images (take kept items)
expand-take images items kept count counted =
    ap (take count) (expand-split images items kept)
    ∙ take_at (expand images (take kept items)) (expand images (drop kept items)) count counted

pub expand-drop : (images : List (List Row)) (items : List Item) (kept count : ℕ)
    → length (expand images (take kept items)) ≡ count
    → drop count (expand images items) ≡ expand images (drop kept items)
expand-drop images items kept count counted =
    ap (drop count) (expand-split images items kept)
    ∙ drop_at (expand images (take kept items)) (expand images (drop kept items)) count counted

-- more items have at least as many nodes
pub expand-longer : (images : List (List Row)) (items : List Item) (few many : ℕ) → few ≤ many
    → length (expand images (take few items)) ≤ length (expand images (take many items))
expand-longer images items few many less =
    let split = expand-split images (take many items) few in
    let same = take-take few many items less in
    omega (
      arith,
      ap length split,
      ap (λ (xs : List Item). length (expand images xs)) same,
      length-append (expand images (take few (take many items))) (expand images (drop few (take many items))),
    )

-- ---- cuts

-- with more items
pub KeepsCuts-pushed : (items more stored : List Item) → KeepsCuts (linked items stored) (linked (items ++ more) stored)
KeepsCuts-pushed items more stored count cut =
    let within = cut.within in record {
      kept = cut.kept;
      within = omega (arith, length-append items more);
      counted = ap (λ (xs : List Item). length (expand (images_of stored) xs))
          (take-append-le cut.kept items more within) ∙ cut.counted;
    }

-- a number of the first items that has exactly `count` nodes
pub record ShortCut (items : List Item) (stored : List Item) (limit count : ℕ) : Type 0 where
  pub kept : ℕ
  pub within : kept ≤ limit
  pub counted : length (expand (images_of stored) (take kept items)) ≡ count

-- a cut of no more nodes than the first items have is a cut of these
pub short_cut : (items stored : List Item) (limit count : ℕ) → IsCut (linked items stored) count
    → count ≤ length (expand (images_of stored) (take limit items)) → ShortCut items stored limit count
short_cut items stored limit count cut few = by (cases_lt limit cut.kept)
  where
    by : (limit < cut.kept) ⊎ (cut.kept ≤ limit) → ShortCut items stored limit count
    by (inl more) =
        let longer = expand-longer (images_of stored) items limit cut.kept (omega arith) in
        let counted = cut.counted in
        record { kept = limit; within = omega arith; counted = omega arith }
    by (inr less) = record { kept = cut.kept; within = less; counted = cut.counted }

-- all nodes are a cut
pub whole_cut : (items stored : List Item) (count : ℕ) → count ≡ length (expand (images_of stored) items)
    → IsCut (linked items stored) count
whole_cut items stored count counted = record {
  kept = length items;
  within = omega arith;
  counted = ap (λ (xs : List Item). length (expand (images_of stored) xs)) (take_all (length items) items (omega arith))
      ∙ sym counted;
}
