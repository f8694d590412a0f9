-- Describes code: instructions with their sets in a separate list.
use Rattle.std.specs.Prelude.{ℕ, ◌<◌, ◌≤◌, All, List, length, map}
use Rattle.peg_bytes.specs.ByteSet.{bytes_of}
use Rattle.peg_bytes.specs.SetPool.{set_at}
use Rattle.peg_bytes.specs.declared.byte_set.ByteSet.{ByteSet}
use Rattle.peg_code.specs.Instructions.{Instruction, Test, Call, Ret, Choice, Commit, FailTwice, End}
use Rattle.peg_code.specs.declared.packed_code.Slot.{Slot}
use Rattle.peg_code.specs.declared.packed_code.Slot.TheVariants as slot
use Rattle.peg_code.specs.declared.packed_code.PackedCode.TheInside.{Inside}

-- the instruction of a slot with these sets
abbrev pub unpacked_instruction : List ByteSet → Slot → Instruction
unpacked_instruction sets (slot.Test set terminal) = Test (bytes_of (set_at sets set)) terminal
unpacked_instruction sets (slot.Call rule) = Call rule
unpacked_instruction sets slot.Ret = Ret
unpacked_instruction sets (slot.Choice target) = Choice target
unpacked_instruction sets (slot.Commit target) = Commit target
unpacked_instruction sets slot.FailTwice = FailTwice
unpacked_instruction sets slot.End = End

abbrev pub unpacked_code : List ByteSet → List Slot → List Instruction
unpacked_code sets slots = map (unpacked_instruction sets) slots

-- the set of a slot is one of the first `count`
abbrev pub CodeSlotFits : (count : ℕ) → Slot → Type 0
CodeSlotFits count (slot.Test set terminal) = set < count
CodeSlotFits count (slot.Call rule) = Unit {0}
CodeSlotFits count slot.Ret = Unit {0}
CodeSlotFits count (slot.Choice target) = Unit {0}
CodeSlotFits count (slot.Commit target) = Unit {0}
CodeSlotFits count slot.FailTwice = Unit {0}
CodeSlotFits count slot.End = Unit {0}

-- the set of each slot exists, and there are no more sets than slots
pub record IsPackedCode (packed : Inside) : Type 0 where
  pub fit : All (CodeSlotFits (length packed.sets)) packed.slots.items
  pub few : length packed.sets ≤ length packed.slots.items
