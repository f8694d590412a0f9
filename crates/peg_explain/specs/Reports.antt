-- What a message says of a parse: which position it names, and what is expected there.
use Rattle.std.specs.Prelude.{ℕ, ◌==◌, Bool, true, false, max, nat_le}
use Rattle.peg_tree.specs.declared.outcome.Parsed.{Parsed}
use Rattle.peg_tree.specs.declared.outcome.Parsed.TheVariants.{Matched, Failed}

-- a text with this many bytes matched as a whole
abbrev pub is_whole_match : Parsed → (bytes : ℕ) → Bool
is_whole_match Failed bytes = false
is_whole_match (Matched end tree) bytes = end == bytes

-- the position that a message names: the furthest failure, or the end of a match if that is further
abbrev pub named_position : Parsed → (far : ℕ) → ℕ
named_position Failed far = far
named_position (Matched end tree) far = max end far

-- the items of the furthest failure are expected there, unless a match ended after it
abbrev pub are_items_expected : Parsed → (far : ℕ) → Bool
are_items_expected Failed far = true
are_items_expected (Matched end tree) far = nat_le end far

-- the end of the text is expected there if a match ended there
abbrev pub is_end_expected : Parsed → (far : ℕ) → Bool
is_end_expected Failed far = false
is_end_expected (Matched end tree) far = nat_le far end
