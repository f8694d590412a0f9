-- Describes code: paths of rules, each of which left-calls the next one.
use Rattle.std.specs.Prelude.{◌≡◌, ℕ, ◌<◌, List, [], ◌∷◌, drop, length, slice_index}
use Rattle.peg_core.specs.CoreForm.{CoreForm}
use Rattle.peg_core.specs.CoreLoops.{IsCoreChain}

-- each rule of a path left-calls the next one
abbrev pub IsPath : List CoreForm → List ℕ → Type 0
IsPath bodies [] = Unit {0}
IsPath bodies (rule ∷ more) = IsCoreChain bodies rule more

-- the part of a path from a rule on
abbrev pub IsFrom : (path : List ℕ) → (rule : ℕ) → List ℕ → Type 0
IsFrom path rule rest = (at : ℕ) × (at < length path) × (slice_index path at ≡ rule) × (rest ≡ drop at path)
