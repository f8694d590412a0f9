use Rattle.std.proofs.Common.{◌≡◌, map, take}
use Rattle.peg_bytes.specs.Extent.{extent}
use Rattle.peg_handle.specs.FileSpans.{file_span}
use Rattle.peg_handle.proofs.explaining.file_spans.Given as goal

-- the spans of the first items are copied
abbrev pub invariant-items : goal.invariant-items
invariant-items l = l.copied.items ≡ map (λ item. file_span (extent item.span)) (take l.item-index l.items)
