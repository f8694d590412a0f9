-- What is written of a line.
use Rattle.std.specs.Prelude.{◌≡◌, ◌⊎◌, ℕ, ◌<◌, List, Option, length, take}
use Rattle.std.specs.Io.KnownBytes.{Appends, Keeps}

-- a correct line is written, and this is its exit status; or an allocation failed, and nothing is written
abbrev pub Prints : (IsRight : List ℕ → ℕ → Type 0) → (old new : Option (List ℕ)) → ℕ → Type 0
Prints IsRight old new status =
    ((line : List ℕ) × IsRight line status × Appends old new line) ⊎ ((status ≡ 5) × Keeps old new)

-- a proper prefix of a correct line is written
abbrev pub PrintsInPart : (IsRight : List ℕ → ℕ → Type 0) → (old new : Option (List ℕ)) → Type 0
PrintsInPart IsRight old new =
    (line : List ℕ) × (status : ℕ) × (n : ℕ) × IsRight line status × (n < length line) × Appends old new (take n line)
