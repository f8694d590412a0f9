-- Open nodes: those of size 0.
use Rattle.std.specs.Prelude.{◌≡◌, ◌≢◌, ℕ, ◌-◌, List, ◌∷◌, ◌++◌, length}
use Rattle.std.specs.List.{All}
use Rattle.peg_bytes.specs.declared.span.Span.{Span}
use Rattle.peg_tree.specs.Rows.{Row}

-- no node is open
abbrev pub AreClosed : List Row → Type 0
AreClosed rows = All (λ row. row.size ≢ 0) rows

-- the newest open node has number `at`
pub record IsOpenAt (rows : List Row) (at : ℕ) : Type 0 where
  pub before : List Row
  pub newest : Row
  pub after : List Row
  pub parts : rows ≡ before ++ newest ∷ after
  pub counted : length before ≡ at
  pub is_open : newest.size ≡ 0
  pub are_closed : AreClosed after

-- the node at `at` once it is closed: its size is the number of nodes from it on
abbrev pub closed_row : ℕ → Span → List Row → ℕ → Row
closed_row rule span rows at = record { rule = rule; start = span.start; end = span.end; size = length rows - at }
