-- The furthest failure. This is the project's own definition: Ford's relation has no failure positions.
use Rattle.std.specs.Prelude.{◌≡◌, ◌≢◌, ◌↔◌, ℕ, ◌≤◌, List, [], All, Contains}
use Rattle.std.specs.List.Sorted.{IsStrictlyIncreasing}
use Rattle.peg_semantics.specs.Record.{Test}

-- The furthest failure of a list of failed tests: the greatest position among them, and the terminals that failed
-- there, in ascending order. Without any failed test the position is 0 and the list is empty.
pub record IsFurthest (tests : List Test) (far : ℕ) (expected : List ℕ) : Type 0 where
  pub greatest : All (λ test. test.position ≤ far) tests
  pub exactly : (terminal : ℕ)
      → Contains expected terminal ↔ Contains tests (record { position = far; terminal = terminal })
  pub ascending : IsStrictlyIncreasing expected
  pub reached : tests ≢ [] → expected ≢ []
  pub none : tests ≡ [] → far ≡ 0
