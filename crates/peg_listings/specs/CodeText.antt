-- The printed code of a program: its instructions, and the entry of each rule.
use Rattle.std.specs.Prelude.{ℕ, ◌+◌, ◌==◌, true, false, if◌then◌else◌, List, [], ◌∷◌, codes, map}
use Rattle.serde_json.specs.Data.{Data, Items, unsigned, number, string, array, object, no_members, member, no_items, item}
use Rattle.serde_json.specs.View.{items_of}
use Rattle.peg_bytes.specs.ByteSet.{Bytes}
use Rattle.peg_code.specs.Instructions.{Instruction, Test, Call, Ret, Choice, Commit, FailTwice, End}

-- consecutive bytes, from the first to the last
pub record ByteRun : Type 0 where
  pub first : ℕ
  pub last : ℕ

abbrev pub run_between : (first last : ℕ) → ByteRun
run_between first last = record { first = first; last = last }

-- the runs after adding a lower byte: it extends the first run if that starts at the next byte
abbrev pub with_byte : ℕ → List ByteRun → List ByteRun
with_byte byte [] = run_between byte byte ∷ []
with_byte byte (run ∷ runs) =
    if run.first == byte + 1 then run_between byte run.last ∷ runs else run_between byte byte ∷ run ∷ runs

-- the maximal runs of the bytes of a set, ascending, for the flags from a byte on
abbrev pub runs_from : (byte : ℕ) → Bytes → List ByteRun
runs_from byte [] = []
runs_from byte (true ∷ flags) = with_byte byte (runs_from (byte + 1) flags)
runs_from byte (false ∷ flags) = runs_from (byte + 1) flags

abbrev pub run_data : ByteRun → Data
run_data run = array (item (number (unsigned run.first)) (item (number (unsigned run.last)) no_items))

abbrev pub runs_data : Bytes → Data
runs_data set = array (items_of (map run_data (runs_from 0 set)))

-- the JSON of an instruction: its name, and its operands
abbrev pub named_data : (name : List ℕ) → Items → Data
named_data name arguments = array (item (string name) arguments)

abbrev pub numbered : ℕ → Items
numbered n = item (number (unsigned n)) no_items

-- the JSON of a terminal test
abbrev pub test_data : Bytes → (terminal : ℕ) → Data
test_data set terminal =
    named_data (codes "test") (item (number (unsigned terminal)) (item (runs_data set) no_items))

-- the JSON of an instruction
abbrev pub instruction_data : Instruction → Data
instruction_data (Test set terminal) = test_data set terminal
instruction_data (Call rule) = named_data (codes "call") (numbered rule)
instruction_data Ret = named_data (codes "ret") no_items
instruction_data (Choice target) = named_data (codes "choice") (numbered target)
instruction_data (Commit target) = named_data (codes "commit") (numbered target)
instruction_data FailTwice = named_data (codes "failtwice") no_items
instruction_data End = named_data (codes "end") no_items

abbrev pub number_data : ℕ → Data
number_data n = number (unsigned n)

-- the JSON of a program's code
abbrev pub code_data : List Instruction → (entries : List ℕ) → Data
code_data code entries =
    object (member (codes "code") (array (items_of (map instruction_data code)))
    (member (codes "entries") (array (items_of (map number_data entries))) no_members))
