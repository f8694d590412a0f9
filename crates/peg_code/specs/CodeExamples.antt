-- Grammars compiled by hand, to compare the definitions with.
use Rattle.std.specs.Prelude.{ℕ, List, [], ◌∷◌}
use Rattle.peg_bytes.specs.ByteSet.{only, all_bytes}
use Rattle.peg_code.specs.Instructions.{Instruction, Test, Call, Ret, Choice, Commit, FailTwice, End}

-- S <- 'a' S / 'b'
abbrev pub nested_code : List Instruction
nested_code = End ∷ Choice 5 ∷ Test (only 97) 0 ∷ Call 0 ∷ Commit 6 ∷ Test (only 98) 1 ∷ Ret ∷ []

-- 'x'?   .+   ''*   &[]   !''   'x'* .   !'x' / [] 'x', one rule each
abbrev pub operators_code : List Instruction
operators_code =
    End
    ∷ Choice 4 ∷ Test (only 120) 0 ∷ Commit 4 ∷ Ret
    ∷ Test all_bytes 1 ∷ Choice 9 ∷ Test all_bytes 1 ∷ Commit 6 ∷ Ret
    ∷ Choice 12 ∷ Commit 10 ∷ Ret
    ∷ Choice 18 ∷ Choice 17 ∷ Test [] 3 ∷ FailTwice ∷ FailTwice ∷ Ret
    ∷ Choice 21 ∷ FailTwice ∷ Ret
    ∷ Choice 25 ∷ Test (only 120) 5 ∷ Commit 22 ∷ Test all_bytes 6 ∷ Ret
    ∷ Choice 32 ∷ Choice 31 ∷ Test (only 120) 7 ∷ FailTwice ∷ Commit 34 ∷ Test [] 8 ∷ Test (only 120) 9 ∷ Ret
    ∷ []

abbrev pub operators_entries : List ℕ
operators_entries = 1 ∷ 5 ∷ 10 ∷ 13 ∷ 19 ∷ 22 ∷ 27 ∷ []
