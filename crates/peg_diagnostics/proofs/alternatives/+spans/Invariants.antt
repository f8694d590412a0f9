use Rattle.std.proofs.Common.{◌≡◌, ◌++◌, drop, map}
use Rattle.peg_bytes.specs.Extent.{extent}
use Rattle.peg_diagnostics.specs.Marked.{alternative_extents_of_all, alternative_extents_of_each}
use Rattle.peg_grammar.specs.Written.{form_of}
use Rattle.peg_semantics.specs.Form.{forms}
use Rattle.peg_diagnostics.proofs.alternatives.+spans.Given as goal

-- the spans so far and those of the remaining expressions are those at the start and those of all expressions
abbrev pub invariant-add_all_spans-loop-item : goal.invariant-add_all_spans-loop-item
invariant-add_all_spans-loop-item l =
    map extent l.spans.items ++ alternative_extents_of_all (forms (drop l.item-index (map form_of l.items)))
    ≡ map extent l.initial.spans.items ++ alternative_extents_of_all (forms (map form_of l.items))

abbrev pub invariant-add_each_span-loop-item : goal.invariant-add_each_span-loop-item
invariant-add_each_span-loop-item l =
    map extent l.spans.items ++ alternative_extents_of_each (forms (drop l.item-index (map form_of l.items)))
    ≡ map extent l.initial.spans.items ++ alternative_extents_of_each (forms (map form_of l.items))
