use Rattle.std.proofs.Common.{◌≡◌, ℕ, ◌+◌, ◌≤◌, ◌<◌, length, slice_get}
use Rattle.peg_handle.proofs.buffers.copy_items.Given as goal

-- the first `i` items are copied, and the rest is as it was
abbrev pub invariant-items : goal.invariant-items
invariant-items g l = record {
  length : length l.out ≡ length l.initial.out;
  copied : (place : ℕ) → place < l.i → slice_get l.out place ≡ slice_get l.items (l.from + place);
  kept : (place : ℕ) → l.i ≤ place → slice_get l.out place ≡ slice_get l.initial.out place;
}
