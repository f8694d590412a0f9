use Rattle.std.proofs.Common.{◌≡◌, ◌++◌, drop, map}
use Rattle.peg_bytes.specs.Extent.{extent}
use Rattle.peg_diagnostics.specs.Marked.{doubled}
use Rattle.peg_diagnostics.proofs.marked.add_twice.Given as goal

-- the spans so far and the remaining ones doubled are those at the start and all doubled
abbrev pub invariant-alternatives : goal.invariant-alternatives
invariant-alternatives l =
    map extent l.spans.items ++ doubled (drop l.span-index (map extent l.alternatives))
    ≡ map extent l.initial.spans.items ++ doubled (map extent l.alternatives)
