-- Outcomes whose positions are in the text.
use Rattle.std.specs.Prelude.{ℕ, ◌≤◌, List, length}
use Rattle.peg_tree.specs.declared.outcome.Outcome.{Outcome}
use Rattle.peg_tree.specs.declared.outcome.Parsed.{Parsed}
use Rattle.peg_tree.specs.declared.outcome.Parsed.TheVariants.{Failed, Matched}

-- a match ends within a text with this many bytes
abbrev pub EndsWithin : Parsed → (bytes : ℕ) → Type 0
EndsWithin Failed bytes = Unit {0}
EndsWithin (Matched end trees) bytes = end ≤ bytes

-- the furthest failure is in the text, or at its end, and so is the end of a match
pub record IsInText (text : List ℕ) (outcome : Outcome) : Type 0 where
  pub far : outcome.far ≤ length text
  pub end : EndsWithin outcome.result (length text)
