-- Describes code: which items are noted as parts of rules.
use Rattle.std.specs.Prelude.{ℕ, Bool, false, slice_index_or}
use Rattle.peg_explain.specs.declared.parts.Parts.{Parts}

-- the item with a number is noted
abbrev pub has_part : Parts → (item : ℕ) → Bool
has_part parts item = slice_index_or parts.flags.items item false
