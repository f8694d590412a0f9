-- Counts that are out of range.
use Rattle.std.proofs.Common.{Bool, not}
use Rattle.peg_semantics.specs.Form.{Count}
use Rattle.peg_semantics.specs.Grammar.{is_in_range}

abbrev pub is_bad : Count → Bool
is_bad count = not (is_in_range count)
