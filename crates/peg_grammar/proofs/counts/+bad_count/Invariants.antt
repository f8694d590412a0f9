use Rattle.std.proofs.Common.{◌≡◌, drop, find, map}
use Rattle.peg_semantics.specs.Form.{forms, counts_written_by_all}
use Rattle.peg_grammar.specs.Written.{form_of}
use Rattle.peg_grammar.proofs.BadCounts.{is_bad}
use Rattle.peg_grammar.proofs.counts.+bad_count.Given as goal

-- the result for the remaining items is the result for all items
abbrev pub invariant-bad_count_among-loop-item : goal.invariant-bad_count_among-loop-item
invariant-bad_count_among-loop-item l =
    find is_bad (counts_written_by_all (forms (map form_of (drop l.item-index l.items))))
    ≡ find is_bad (counts_written_by_all (forms (map form_of l.items)))
