-- Describes code: the instruction that an `Instr` denotes.
use Rattle.peg_bytes.specs.ByteSet.{bytes_of}
use Rattle.peg_code.specs.Instructions.{Instruction, Test, Call, Ret, Choice, Commit, FailTwice, End}
use Rattle.peg_code.specs.declared.instr.Instr.{Instr}
use Rattle.peg_code.specs.declared.instr.Instr.TheVariants as code

abbrev pub instruction_of : Instr → Instruction
instruction_of (code.Test set terminal) = Test (bytes_of set) terminal
instruction_of (code.Call rule) = Call rule
instruction_of code.Ret = Ret
instruction_of (code.Choice target) = Choice target
instruction_of (code.Commit target) = Commit target
instruction_of code.FailTwice = FailTwice
instruction_of code.End = End
