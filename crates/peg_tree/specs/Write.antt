-- Describes code: writing bytes into a buffer.
use Rattle.std.specs.Prelude.{◌≡◌, ℕ, ◌+◌, List, ◌++◌, length, take}

-- the bytes are written at `at` and end at `end`; the bytes before `at` are unchanged, those after `end` are
-- unspecified
abbrev pub Writes : (old : List ℕ) → (at : ℕ) → (bytes new : List ℕ) → (end : ℕ) → Type 0
Writes old at bytes new end =
    (length new ≡ length old) × (end ≡ at + length bytes) × (take end new ≡ take at old ++ bytes)
