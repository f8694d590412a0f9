-- Describes code: nodes with their sets in a separate list.
use Rattle.std.specs.Prelude.{ℕ, ◌<◌, ◌≤◌, All, List, length, map}
use Rattle.peg_bytes.specs.SetPool.{set_at}
use Rattle.peg_bytes.specs.declared.byte_set.ByteSet.{ByteSet}
use Rattle.peg_core.specs.declared.node.Node.{Node}
use Rattle.peg_core.specs.declared.node.Node.TheVariants.{Empty, Test, Rule, Seq, Choice, Star, Not}
use Rattle.peg_core.specs.declared.node.Entry.{Entry}
use Rattle.peg_core.specs.declared.packed.Slot.{Slot}
use Rattle.peg_core.specs.declared.packed.Slot.TheVariants as slot
use Rattle.peg_core.specs.declared.packed.PackedEntry.{PackedEntry}
use Rattle.peg_core.specs.declared.packed.PackedNodes.TheInside.{Inside}

-- the node of a slot with these sets
abbrev pub unpacked_slot : List ByteSet → Slot → Node
unpacked_slot sets slot.Empty = Empty
unpacked_slot sets (slot.Test set terminal) = Test (set_at sets set) terminal
unpacked_slot sets (slot.Rule rule) = Rule rule
unpacked_slot sets (slot.Seq first rest) = Seq first rest
unpacked_slot sets (slot.Choice first rest) = Choice first rest
unpacked_slot sets (slot.Star part) = Star part
unpacked_slot sets (slot.Not part) = Not part

-- the node of an item, with its span
abbrev pub unpacked_item : List ByteSet → PackedEntry → Entry
unpacked_item sets item = record { node = unpacked_slot sets item.slot; origin = item.origin }

abbrev pub unpacked : List ByteSet → List PackedEntry → List Entry
unpacked sets items = map (unpacked_item sets) items

-- the set of a slot is one of the first `count`
abbrev pub SlotFits : (count : ℕ) → Slot → Type 0
SlotFits count slot.Empty = Unit {0}
SlotFits count (slot.Test set terminal) = set < count
SlotFits count (slot.Rule rule) = Unit {0}
SlotFits count (slot.Seq first rest) = Unit {0}
SlotFits count (slot.Choice first rest) = Unit {0}
SlotFits count (slot.Star part) = Unit {0}
SlotFits count (slot.Not part) = Unit {0}

abbrev pub ItemFits : (count : ℕ) → PackedEntry → Type 0
ItemFits count item = SlotFits count item.slot

-- the set of each slot exists, and there are no more sets than slots
pub record IsPacked (packed : Inside) : Type 0 where
  pub fit : All (ItemFits (length packed.sets)) packed.slots.items
  pub few : length packed.sets ≤ length packed.slots.items
