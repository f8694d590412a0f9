-- Describes code: the line and the line start of an offset.
use Rattle.std.specs.Prelude.{◌≡◌, ℕ, ◌+◌, ◌≤◌, List}
use Rattle.peg_bytes.specs.Place.{ends_up_to, last_or, line_at}
use Rattle.peg_listings.specs.declared.positions.Position.{Position}

-- a position has the line of its offset in a file, and the offset after the last line end before it
pub record IsPositionIn (file : List ℕ) (position : Position) : Type 0 where
  pub line : position.line ≡ line_at file position.at
  pub start : position.start ≡ last_or 0 (ends_up_to file position.at)
  pub before : position.start ≤ position.at
  pub few : position.line ≤ position.at + 1
