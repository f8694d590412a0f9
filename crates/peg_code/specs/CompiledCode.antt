-- Describes code: instructions and programs encoded as data, which the views of types in code need.
use Rattle.std.specs.Prelude.{◌≡◌, ℕ, zero, suc, Bool, List, [], Option, refl}
use Rattle.std.specs.Coded.{Coded, code_by, coded×, coded_ℕ, coded_bool, coded_list, coded_option}
use Rattle.peg_bytes.specs.ByteSet.{Bytes}
use Rattle.peg_core.specs.CoreCode.{desugared_code}
use Rattle.peg_core.specs.Layout.{Desugared}
use Rattle.peg_code.specs.Compiled.{Compiled}
use Rattle.peg_code.specs.Instructions.{Instruction, Test, Call, Ret, Choice, Commit, FailTwice, End}

-- the number of the kind of an instruction, its set, and its number; the set or the number is empty where it has none
abbrev pub InstructionItem : Type 0
InstructionItem = ℕ × (Bytes × ℕ)

abbrev pub item_of : Instruction → InstructionItem
item_of (Test set terminal) = (0, (set, terminal))
item_of (Call rule) = (1, ([], rule))
item_of Ret = (2, ([], 0))
item_of (Choice target) = (3, ([], target))
item_of (Commit target) = (4, ([], target))
item_of FailTwice = (5, ([], 0))
item_of End = (6, ([], 0))

abbrev pub of_kind : (kind : ℕ) → Bytes → ℕ → Instruction
of_kind zero set number = Test set number
of_kind (suc zero) set number = Call number
of_kind (suc (suc zero)) set number = Ret
of_kind (suc (suc (suc zero))) set number = Choice number
of_kind (suc (suc (suc (suc zero)))) set number = Commit number
of_kind (suc (suc (suc (suc (suc zero))))) set number = FailTwice
of_kind (suc (suc (suc (suc (suc (suc kind)))))) set number = End

pub of_kind-item_of : (i : Instruction) → of_kind (item_of i).0 (item_of i).1.0 (item_of i).1.1 ≡ i
of_kind-item_of (Test set terminal) = refl
of_kind-item_of (Call rule) = refl
of_kind-item_of Ret = refl
of_kind-item_of (Choice target) = refl
of_kind-item_of (Commit target) = refl
of_kind-item_of FailTwice = refl
of_kind-item_of End = refl

abbrev pub instruction_code : Coded Instruction
instruction_code =
    code_by InstructionItem (coded× coded_ℕ (coded× (coded_list coded_bool) coded_ℕ)) item_of
    (λ item. of_kind item.0 item.1.0 item.1.1) of_kind-item_of

abbrev pub compiled_code : Coded Compiled
compiled_code =
    code_by (Desugared × (List Instruction × (List ℕ × Option (List Bool))))
    (coded× desugared_code (coded× (coded_list instruction_code)
    (coded× (coded_list coded_ℕ) (coded_option (coded_list coded_bool)))))
    (λ p. (p.core, (p.code, (p.entries, p.shown))))
    (λ p. record { core = p.0; code = p.1.0; entries = p.1.1.0; shown = p.1.1.1 }) (λ _. refl)
