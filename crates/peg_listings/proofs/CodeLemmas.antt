-- The printed code: lists of instructions, numbers and runs; none contains a float.
use Rattle.std.proofs.Common.{◌≡◌, ℕ, Bool, false, ◌||◌, List, [], ◌∷◌, Some, map, get_or, slice_get, refl, ap, ◌∙◌}
use Rattle.std.proofs.lemmas.List.{get_or-map}
use Rattle.std.proofs.lemmas.Option.{get_or_from_slice_get, slice_get_within}
use Rattle.serde_json.specs.Data.{Data}
use Rattle.serde_json.specs.View.{items_of}
use Rattle.serde_json.specs.Written.{has_float, items_have_float}
use Rattle.peg_code.specs.Instructions.{Instruction, Test, Call, Ret, Choice, Commit, FailTwice, End}
use Rattle.peg_listings.specs.CodeText.{ByteRun, code_data, instruction_data, number_data, run_data, runs_from}

-- an item of a printed list is the printed item
pub printed-at : {A : Type 0} (print : A → Data) (list : List A) (at : ℕ) (x : A) → slice_get list at ≡ Some x
    → get_or (map print list) at (print x) ≡ print x
printed-at print list at x is =
    get_or-map print list at x (print x) (slice_get_within list at x is) ∙ ap print (get_or_from_slice_get list at x x is)

-- ---- no floats

runs-without_floats : (runs : List ByteRun) → items_have_float (items_of (map run_data runs)) ≡ false
runs-without_floats [] = refl
runs-without_floats (run ∷ runs) = runs-without_floats runs

instruction-without_floats : (i : Instruction) → has_float (instruction_data i) ≡ false
instruction-without_floats (Test set terminal) = ap (λ (b : Bool). b || false) (runs-without_floats (runs_from 0 set))
instruction-without_floats (Call rule) = refl
instruction-without_floats Ret = refl
instruction-without_floats (Choice target) = refl
instruction-without_floats (Commit target) = refl
instruction-without_floats FailTwice = refl
instruction-without_floats End = refl

instructions-without_floats : (code : List Instruction) → items_have_float (items_of (map instruction_data code)) ≡ false
instructions-without_floats [] = refl
instructions-without_floats (i ∷ code) =
    ap (λ (b : Bool). b || items_have_float (items_of (map instruction_data code))) (instruction-without_floats i)
    ∙ instructions-without_floats code

numbers-without_floats : (numbers : List ℕ) → items_have_float (items_of (map number_data numbers)) ≡ false
numbers-without_floats [] = refl
numbers-without_floats (n ∷ numbers) = numbers-without_floats numbers

pub code-without_floats : (code : List Instruction) (entries : List ℕ) → has_float (code_data code entries) ≡ false
code-without_floats code entries =
    ap (λ (b : Bool). b || (items_have_float (items_of (map number_data entries)) || false)) (instructions-without_floats code)
    ∙ ap (λ (b : Bool). b || false) (numbers-without_floats entries)
