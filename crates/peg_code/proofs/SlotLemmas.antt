-- Instructions with their sets in a separate list.
use Rattle.std.proofs.Common.{◌≡◌, ℕ, zero, suc, ◌+◌, ◌≤◌, All, List, [], ◌∷◌, ◌++◌, length, refl, ap, ◌∙◌, subst, sym, arith, length-append}
use Rattle.std.proofs.lemmas.List.{get_or_append_left, map-append}
use Rattle.std.proofs.lemmas.List.Elements.{All-push, All-weaker}
use Rattle.peg_bytes.specs.ByteSet.{bytes_of}
use Rattle.peg_bytes.specs.SetPool.{AddsSets}
use Rattle.peg_bytes.specs.declared.byte_set.ByteSet.{ByteSet}
use Rattle.peg_code.specs.Instructions.{Instruction, Test}
use Rattle.peg_code.specs.Slots.{IsPackedCode, CodeSlotFits, unpacked_code, unpacked_instruction}
use Rattle.peg_code.specs.declared.packed_code.Slot.{Slot}
use Rattle.peg_code.specs.declared.packed_code.Slot.TheVariants as slot
use Rattle.peg_code.specs.declared.packed_code.PackedCode.TheInside.{Inside}

-- ---- more sets are appended

slot-more : (sets more : List ByteSet) (s : Slot) → CodeSlotFits (length sets) s
    → unpacked_instruction (sets ++ more) s ≡ unpacked_instruction sets s
slot-more sets more (slot.Test set terminal) fits =
    ap (λ (b : ByteSet). Test (bytes_of b) terminal) (get_or_append_left sets more (record { words = [] }) set fits)
slot-more sets more (slot.Call rule) fits = refl
slot-more sets more slot.Ret fits = refl
slot-more sets more (slot.Choice target) fits = refl
slot-more sets more (slot.Commit target) fits = refl
slot-more sets more slot.FailTwice fits = refl
slot-more sets more slot.End fits = refl

unpacked-more : (sets more : List ByteSet) (slots : List Slot) → All (CodeSlotFits (length sets)) slots
    → unpacked_code (sets ++ more) slots ≡ unpacked_code sets slots
unpacked-more sets more [] fit = refl
unpacked-more sets more (s ∷ slots) fit =
    λ i. slot-more sets more s (fit zero s (omega arith)) i ∷ unpacked-more sets more slots (λ k d within. fit (suc k) d (omega arith)) i

fits-more : (count now : ℕ) → count ≤ now → (s : Slot) → CodeSlotFits count s → CodeSlotFits now s
fits-more count now more (slot.Test set terminal) fits = omega arith
fits-more count now more (slot.Call rule) fits = tt
fits-more count now more slot.Ret fits = tt
fits-more count now more (slot.Choice target) fits = tt
fits-more count now more (slot.Commit target) fits = tt
fits-more count now more slot.FailTwice fits = tt
fits-more count now more slot.End fits = tt

-- ---- one more instruction

module _ (old new : Inside) (s : Slot) (is : IsPackedCode old) (adds : AddsSets old.sets new.sets)
    (put : new.slots.items ≡ old.slots.items ++ s ∷ []) where
  longer : length new.sets ≡ length old.sets + length adds.more
  longer = ap length adds.added ∙ length-append old.sets adds.more

  pub IsPacked-push : CodeSlotFits (length new.sets) s → IsPackedCode new
  IsPacked-push fits =
      let P : Slot → Type 0 = CodeSlotFits (length new.sets) in
      record {
        fit = subst (All P) (sym put) (All-push P old.slots.items s (All-weaker (CodeSlotFits (length old.sets)) P (fits-more (length old.sets) (length new.sets) (omega (arith, longer))) old.slots.items is.fit) fits);
        few = omega (arith, longer, adds.few, is.few, ap length put, length-append old.slots.items (s ∷ []));
      }

  pub unpacked-push : (i : Instruction) → unpacked_instruction new.sets s ≡ i
      → unpacked_code new.sets new.slots.items ≡ unpacked_code old.sets old.slots.items ++ i ∷ []
  unpacked-push i holds =
      ap (unpacked_code new.sets) put
      ∙ (map-append (unpacked_instruction new.sets) old.slots.items (s ∷ [])
      ∙ ((λ j. unpacked_code (adds.added j) old.slots.items ++ holds j ∷ [])
      ∙ ap (λ (code : List Instruction). code ++ i ∷ []) (unpacked-more old.sets adds.more old.slots.items is.fit)))
