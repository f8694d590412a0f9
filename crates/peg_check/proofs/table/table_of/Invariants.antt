use Rattle.std.proofs.Common.{◌≡◌, ◌+◌, ◌*◌, ◌<◌, All, length}
use Rattle.peg_check.specs.Fixpoint.{unknown_in}
use Rattle.peg_check.proofs.OutcomeTables.{Holds}
use Rattle.peg_check.proofs.Worklist.{AreAwaited}
use Rattle.peg_check.proofs.table.table_of.Given as goal

-- known outcomes hold, and all that follow from them are known except for pending forms
abbrev pub invariant-looks : goal.invariant-looks
invariant-looks l = record {
  count : length l.entries.items ≡ length l.core.forms;
  within : All (λ number. number < length l.core.forms) l.pending.items;
  holds : Holds l.core l.entries.items;
  awaited : AreAwaited (length l.core.forms) l.deps.items l.entries.items l.pending.items;
}

-- each iteration takes a form from the list, and pushes others only if more outcomes are known
abbrev pub decreases-looks : goal.decreases-looks
decreases-looks l = unknown_in l.entries.items * (length l.reverse_deps.entries.items + 1) + length l.pending.items
