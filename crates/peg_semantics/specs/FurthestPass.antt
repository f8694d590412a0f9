-- Describes code: the furthest failure as one pass over the failed tests computes it. A law says that the pass computes
-- the furthest failure.
use Rattle.std.specs.Prelude.{ℕ, List, [], ◌∷◌, fold, nat_lt, ◌==◌, if◌then◌else◌}
use Rattle.peg_semantics.specs.Record.{Test}

-- the furthest failure so far: a position, and the terminals that failed there
pub record Furthest : Type 0 where
  pub far : ℕ
  pub expected : List ℕ

-- a number inserted into an ascending list, unless the list contains it
abbrev pub insert_ascending : ℕ → List ℕ → List ℕ
insert_ascending n [] = n ∷ []
insert_ascending n (m ∷ ms) =
    if nat_lt n m then n ∷ m ∷ ms else (if n == m then m ∷ ms else m ∷ insert_ascending n ms)

-- the furthest failure after one more failed test
abbrev pub note_test : Furthest → Test → Furthest
note_test f test =
    if nat_lt test.position f.far
    then f
    else (if nat_lt f.far test.position
    then record { far = test.position; expected = test.terminal ∷ [] }
    else record { far = f.far; expected = insert_ascending test.terminal f.expected })

-- the furthest failure before any test
abbrev pub nothing_failed : Furthest
nothing_failed = record { far = 0; expected = [] }

-- the furthest failure after all of the tests
abbrev pub furthest_of : List Test → Furthest
furthest_of tests = fold note_test nothing_failed tests
