-- Describes code: a count that a check found.
use Rattle.peg_bytes.specs.Extent.{extent}
use Rattle.peg_semantics.specs.Form as form
use Rattle.peg_grammar.specs.declared.counts.Count.{Count}

-- the count as written
abbrev pub count_seen : Count → form.Count
count_seen count = record { min = count.min; max = count.max; span = extent count.span }
