-- What a transfer takes from a source and adds to a sink.
use Rattle.std.specs.Prelude.{ℕ, ◌<◌, ◌≤◌, List, Option, length, take}
use Rattle.std.specs.Io.KnownBytes.{Consumes, Appends}

-- at most `limit` bytes have been taken from the start of the source
abbrev pub ConsumesAtMost : Option (List ℕ) → Option (List ℕ) → ℕ → Type 0
ConsumesAtMost old new limit = (bytes : List ℕ) × (length bytes ≤ limit) × Consumes old new bytes

-- a proper prefix of `bytes` has been appended to the sink
abbrev pub AppendsProperPrefix : Option (List ℕ) → Option (List ℕ) → List ℕ → Type 0
AppendsProperPrefix old new bytes = (n : ℕ) × (n < length bytes) × Appends old new (take n bytes)
