-- Describes code: the stack of ranges of the store that wait to be expanded. The last one is expanded first.
use Rattle.std.specs.Prelude.{ℕ, ◌+◌, ◌-◌, ◌*◌, ◌^◌, ◌<◌, ◌≤◌, List, [], ◌∷◌, ◌++◌, drop, take, nat_lt, if◌then◌else◌}
use Rattle.std.specs.List.{flat_map}
use Rattle.peg_tree.specs.Rows.{Row}
use Rattle.peg_nodes.specs.declared.expand.Waiting.{Waiting}

-- the stack after a push, which leaves out an empty range
abbrev pub with_range : List Waiting → ℕ → ℕ → List Waiting
with_range ranges next end = if nat_lt next end then ranges ++ record { next = next; end = end } ∷ [] else ranges

-- the nodes of the stored items from `next` up to `end`
abbrev pub rows_between : List (List Row) → ℕ → ℕ → List Row
rows_between images next end = flat_map (λ rows. rows) (take (end - next) (drop next images))

-- the nodes of the ranges
abbrev pub waiting_rows : List (List Row) → List Waiting → List Row
waiting_rows images [] = []
waiting_rows images (range ∷ ranges) = waiting_rows images ranges ++ rows_between images range.next range.end

-- each range is within the store and isn't empty
abbrev pub AreWaiting : ℕ → List Waiting → Type 0
AreWaiting stored [] = Unit {0}
AreWaiting stored (range ∷ ranges) = (range.next < range.end) × (range.end ≤ stored) × AreWaiting stored ranges

-- what is left to do: a stored item counts more than all older ones together
abbrev pub work_of : List Waiting → ℕ
work_of [] = 0
work_of (range ∷ ranges) = 1 + (3 * 2 ^ range.end - 3 * 2 ^ range.next) + work_of ranges
