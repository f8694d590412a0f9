-- When a result with markers is that of the grammar as written.
use Rattle.std.specs.Prelude.{◌≡◌, ℕ}
use Rattle.peg_semantics.specs.Record.{Recognition, Failed, Matched}
use Rattle.peg_diagnostics.specs.Marked.{unmarked}

-- Both fail, or both match with the same end. The trees of the second without its markers are those of the first.
abbrev pub IsMarkedResult : (count : ℕ) → (result marked : Recognition) → Type 0
IsMarkedResult count Failed Failed = Unit {0}
IsMarkedResult count Failed (Matched end trees) = ⊥
IsMarkedResult count (Matched end trees) Failed = ⊥
IsMarkedResult count (Matched end trees) (Matched other more) = (end ≡ other) × (unmarked count more ≡ trees)
