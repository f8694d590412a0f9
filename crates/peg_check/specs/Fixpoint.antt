-- Describes code: how the known outcomes of forms grow.
use Rattle.std.specs.Prelude.{ℕ, ◌+◌, Bool, true, false, ◌||◌, List, slice_index_or, slice_set}
use Rattle.std.specs.List.{sum_by}
use Rattle.peg_semantics.specs.AbstractOutcomes.{Can}
use Rattle.peg_check.specs.Cans.{can_at, nothing_known}
use Rattle.peg_check.specs.Dependencies.{outcome_by}
use Rattle.peg_check.specs.declared.can.Can as code
use Rattle.peg_check.specs.declared.dependency.Dependency.{Dependency}

-- the union of two sets of outcomes
abbrev pub union_of : code.Can → Can → code.Can
union_of known can = record {
  nothing = known.nothing || can.nothing;
  something = known.something || can.something;
  fails = known.fails || can.fails;
}

-- the outcomes after those that follow from a link were added to a form
abbrev pub updated_at : List code.Can → Dependency → (number : ℕ) → List code.Can
updated_at cans dep number =
    slice_set cans number (union_of (slice_index_or cans number nothing_known) (outcome_by (can_at cans) dep))

-- the number of outcomes of a form that aren't known
abbrev pub one_unless : Bool → ℕ
one_unless true = 0
one_unless false = 1

abbrev pub unknown_of : code.Can → ℕ
unknown_of can = one_unless can.nothing + one_unless can.something + one_unless can.fails

-- the number of outcomes of all forms that aren't known
abbrev pub unknown_in : List code.Can → ℕ
unknown_in cans = sum_by unknown_of cans
