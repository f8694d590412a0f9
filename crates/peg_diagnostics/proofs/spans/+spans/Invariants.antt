use Rattle.std.proofs.Common.{◌≡◌, ◌++◌, drop, map}
use Rattle.peg_bytes.specs.Extent.{extent}
use Rattle.peg_diagnostics.specs.Items.{item_extents_of_all}
use Rattle.peg_grammar.specs.Written.{form_of}
use Rattle.peg_semantics.specs.Form.{forms}
use Rattle.peg_diagnostics.proofs.spans.+spans.Given as goal

-- the spans so far and those of the remaining expressions are those at the start and those of all expressions
abbrev pub invariant-add_all_spans-loop-item : goal.invariant-add_all_spans-loop-item
invariant-add_all_spans-loop-item l =
    map extent l.spans.items ++ item_extents_of_all (forms (drop l.item-index (map form_of l.items)))
    ≡ map extent l.initial.spans.items ++ item_extents_of_all (forms (map form_of l.items))
