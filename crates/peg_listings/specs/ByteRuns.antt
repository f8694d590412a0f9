-- Describes code: the view of runs of bytes.
use Rattle.std.specs.Prelude.{◌≢◌, ℕ, ◌+◌, List, [], ◌∷◌, ⊤}
use Rattle.peg_listings.specs.CodeText.{run_between}
use Rattle.peg_listings.specs.CodeText as text
use Rattle.peg_listings.specs.declared.byte_runs.ByteRun.{ByteRun}

abbrev pub byte_run_of : ByteRun → text.ByteRun
byte_run_of run = run_between run.first run.last

-- the first run, if there is one, doesn't start at the byte after this one
abbrev pub IsApart : ℕ → List text.ByteRun → Type 0
IsApart byte [] = ⊤
IsApart byte (run ∷ runs) = run.first ≢ byte + 1
