use Rattle.std.proofs.Common.{◌≡◌, ◌==◌, ◌&&◌, ◌||◌, ℕ, length, take}
use Rattle.std.specs.List.{list_any}
use Rattle.std.specs.Prelude.{nat_lt}
use Rattle.peg_explain.specs.Parts.{has_part}
use Rattle.peg_explain.proofs.parts.Parts.add_all.Given as goal

-- the first items are added
abbrev pub invariant-items : goal.invariant-items
invariant-items l = record {
  count : length l.self.flags.items ≡ length l.initial.self.flags.items;
  added : (item : ℕ) → has_part l.self item ≡ (has_part l.initial.self item
      || (list_any (λ (number : ℕ). number == item) (take l.item-index l.items)
      && nat_lt item (length l.initial.self.flags.items)));
}
