use Rattle.std.proofs.Common.{◌≡◌, ◌++◌, drop, map}
use Rattle.peg_diagnostics.specs.Diagnostic.{quiet}
use Rattle.peg_grammar.specs.Written.{form_of}
use Rattle.peg_diagnostics.proofs.quiet_copies.+quiet.Given as goal

-- the copies so far and the quiet expressions of the remaining items are those of all items
abbrev pub invariant-quiet_items-loop-item : goal.invariant-quiet_items-loop-item
invariant-quiet_items-loop-item l =
    map form_of l.copies.items ++ map (λ item. quiet (form_of item)) (drop l.item-index l.items)
    ≡ map (λ item. quiet (form_of item)) l.items
