-- Nodes with their sets in a separate list.
use Rattle.std.proofs.Common.{◌≡◌, ℕ, zero, suc, ◌+◌, ◌≤◌, All, List, [], ◌∷◌, ◌++◌, length}
use Rattle.std.proofs.Common.{refl, ap, ◌∙◌, subst, sym, arith, length-append}
use Rattle.std.proofs.lemmas.List.{get_or_append_left, map-append}
use Rattle.std.proofs.lemmas.List.Elements.{All-push, All-weaker}
use Rattle.peg_bytes.specs.SetPool.{AddsSets}
use Rattle.peg_bytes.specs.declared.byte_set.ByteSet.{ByteSet}
use Rattle.peg_core.specs.Slots.{IsPacked, ItemFits, SlotFits, unpacked, unpacked_item, unpacked_slot}
use Rattle.peg_core.specs.declared.node.Node.TheVariants.{Test}
use Rattle.peg_core.specs.declared.node.Entry.{Entry}
use Rattle.peg_core.specs.declared.packed.Slot.{Slot}
use Rattle.peg_core.specs.declared.packed.Slot.TheVariants as slot
use Rattle.peg_core.specs.declared.packed.PackedEntry.{PackedEntry}
use Rattle.peg_core.specs.declared.packed.PackedNodes.TheInside.{Inside}

-- ---- more sets are appended

slot-more : (sets more : List ByteSet) (s : Slot) → SlotFits (length sets) s
    → unpacked_slot (sets ++ more) s ≡ unpacked_slot sets s
slot-more sets more slot.Empty fits = refl
slot-more sets more (slot.Test set terminal) fits =
    ap (λ (b : ByteSet). Test b terminal) (get_or_append_left sets more (record { words = [] }) set fits)
slot-more sets more (slot.Rule rule) fits = refl
slot-more sets more (slot.Seq first rest) fits = refl
slot-more sets more (slot.Choice first rest) fits = refl
slot-more sets more (slot.Star part) fits = refl
slot-more sets more (slot.Not part) fits = refl

item-more : (sets more : List ByteSet) (item : PackedEntry) → ItemFits (length sets) item
    → unpacked_item (sets ++ more) item ≡ unpacked_item sets item
item-more sets more item fits =
    λ i. record { node = slot-more sets more item.slot fits i; origin = item.origin }

unpacked-more : (sets more : List ByteSet) (items : List PackedEntry) → All (ItemFits (length sets)) items
    → unpacked (sets ++ more) items ≡ unpacked sets items
unpacked-more sets more [] fit = refl
unpacked-more sets more (item ∷ items) fit =
    let here = item-more sets more item (fit zero item (omega arith)) in
    let rest = unpacked-more sets more items (λ k d within. fit (suc k) d (omega arith)) in
    λ i. here i ∷ rest i

fits-more : (count now : ℕ) → count ≤ now → (s : Slot) → SlotFits count s → SlotFits now s
fits-more count now more slot.Empty fits = tt
fits-more count now more (slot.Test set terminal) fits = omega arith
fits-more count now more (slot.Rule rule) fits = tt
fits-more count now more (slot.Seq first rest) fits = tt
fits-more count now more (slot.Choice first rest) fits = tt
fits-more count now more (slot.Star part) fits = tt
fits-more count now more (slot.Not part) fits = tt

-- ---- one more node

module _ (old new : Inside) (item : PackedEntry) (is : IsPacked old) (adds : AddsSets old.sets new.sets)
    (put : new.slots.items ≡ old.slots.items ++ item ∷ []) where
  longer : length new.sets ≡ length old.sets + length adds.more
  longer = ap length adds.added ∙ length-append old.sets adds.more

  pub IsPacked-push : ItemFits (length new.sets) item → IsPacked new
  IsPacked-push fits =
      let Was : PackedEntry → Type 0 = ItemFits (length old.sets) in
      let P : PackedEntry → Type 0 = ItemFits (length new.sets) in
      let more : length old.sets ≤ length new.sets = omega (arith, longer) in
      let wider = λ (i : PackedEntry). fits-more (length old.sets) (length new.sets) more i.slot in
      let kept : All P old.slots.items = All-weaker Was P wider old.slots.items is.fit in
      record {
        fit = subst (All P) (sym put) (All-push P old.slots.items item kept fits);
        few = omega (arith, longer, adds.few, is.few, ap length put, length-append old.slots.items (item ∷ []));
      }

  pub unpacked-push : (next : Entry) → unpacked_item new.sets item ≡ next
      → unpacked new.sets new.slots.items ≡ unpacked old.sets old.slots.items ++ next ∷ []
  unpacked-push next holds =
      let same = unpacked-more old.sets adds.more old.slots.items is.fit in
      ap (unpacked new.sets) put
      ∙ (map-append (unpacked_item new.sets) old.slots.items (item ∷ [])
      ∙ ((λ j. unpacked (adds.added j) old.slots.items ++ holds j ∷ [])
      ∙ ap (λ (nodes : List Entry). nodes ++ next ∷ []) same))
