-- Describes code: parsers that show no rules.
use Rattle.std.specs.Prelude.{◌≡◌, ℕ, Bool, false, List, Option, Some}
use Rattle.peg_tree.specs.Selected.{has_rule}

-- a parser shows the rules of an empty set
abbrev pub ShowsNone : Option (List Bool) → Type 0
ShowsNone shown = (flags : List Bool) × (shown ≡ Some flags) × ((rule : ℕ) → has_rule flags rule ≡ false)
