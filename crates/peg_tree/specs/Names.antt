-- The names of rules.
use Rattle.std.specs.Prelude.{ℕ, List, [], slice_index_or}

-- the name of rule number `rule`, as bytes
abbrev pub name_at : List (List ℕ) → ℕ → List ℕ
name_at names rule = slice_index_or names rule []
