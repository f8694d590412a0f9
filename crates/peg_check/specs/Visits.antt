-- Describes code: the visits of a depth-first search.
use Rattle.std.specs.Prelude.{ℕ, ◌<◌, All, List}
use Rattle.peg_check.specs.declared.search_order.Visit.{Visit}

-- each visit is of one of the first `count` forms
abbrev pub AreVisits : (count : ℕ) → List Visit → Type 0
AreVisits count visits = All (λ visit. visit.number < count) visits
