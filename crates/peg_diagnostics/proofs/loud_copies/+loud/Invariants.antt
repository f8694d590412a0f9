use Rattle.std.proofs.Common.{◌≡◌, ◌++◌, drop, map}
use Rattle.peg_diagnostics.specs.Diagnostic.{loud}
use Rattle.peg_grammar.specs.Written.{form_of}
use Rattle.peg_diagnostics.proofs.loud_copies.+loud.Given as goal

-- the copies so far and the loud expressions of the remaining items are those of all items
abbrev pub invariant-loud_items-loop-item : goal.invariant-loud_items-loop-item
invariant-loud_items-loop-item l =
    map form_of l.copies.items ++ map (λ item. loud (form_of item)) (drop l.item-index l.items)
    ≡ map (λ item. loud (form_of item)) l.items
