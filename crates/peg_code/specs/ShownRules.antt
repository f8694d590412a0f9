-- Which rules a program shows.
use Rattle.std.specs.Prelude.{ℕ, Bool, true, List, Option, None, Some}
use Rattle.peg_tree.specs.Selected.{has_rule}

-- whether matches of a rule have nodes: the rule is in the set, or there is no set
abbrev pub is_shown_by : Option (List Bool) → ℕ → Bool
is_shown_by None rule = true
is_shown_by (Some flags) rule = has_rule flags rule
