-- Describes code: the instruction that an `InstrRef` denotes.
use Rattle.peg_bytes.specs.ByteSet.{bytes_of}
use Rattle.peg_code.specs.Instructions.{Instruction, Test, Call, Ret, Choice, Commit, FailTwice, End}
use Rattle.peg_code.specs.declared.instr_refs.InstrRef.{InstrRef}
use Rattle.peg_code.specs.declared.instr_refs.InstrRef.TheVariants as instr_ref

abbrev pub instruction_of_op : InstrRef → Instruction
instruction_of_op (instr_ref.Test set terminal) = Test (bytes_of set.now) terminal
instruction_of_op (instr_ref.Call rule) = Call rule
instruction_of_op instr_ref.Ret = Ret
instruction_of_op (instr_ref.Choice target) = Choice target
instruction_of_op (instr_ref.Commit target) = Commit target
instruction_of_op instr_ref.FailTwice = FailTwice
instruction_of_op instr_ref.End = End
