use Rattle.std.proofs.Common.{◌≡◌, map, take}
use Rattle.peg_bytes.specs.Extent.{extent}
use Rattle.peg_explain.specs.Expected.{unnamed_fact}
use Rattle.peg_explain.specs.Explanations.{fact_of}
use Rattle.peg_explain.proofs.expected.unnamed_items.Given as goal

-- the items with the first spans
abbrev pub invariant-spans : goal.invariant-spans
invariant-spans l = map fact_of l.list.items ≡ map (λ span. unnamed_fact (extent span)) (take l.span-index l.spans)
