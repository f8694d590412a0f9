use Rattle.std.proofs.Common.{◌≡◌, ℕ, length, take}
use Rattle.peg_explain.specs.Names.{is_part}
use Rattle.peg_explain.specs.Parts.{has_part}
use Rattle.peg_explain.proofs.parts.Parts.of_rests.Given as goal

-- the parts of the rules of the first rests
abbrev pub invariant-rests : goal.invariant-rests
invariant-rests l = record {
  count : length l.parts.flags.items ≡ l.items;
  noted : (item : ℕ) → has_part l.parts item ≡ is_part (take l.rest-index l.rests) l.items item;
}
