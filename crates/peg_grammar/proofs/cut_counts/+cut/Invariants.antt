use Rattle.peg_semantics.specs.CutCounts.{cut_counts}
use Rattle.peg_grammar.specs.Written.{form_of}
use Rattle.peg_grammar.proofs.CutLoops.{IsReplaced}
use Rattle.peg_grammar.proofs.cut_counts.+cut.Given as goal

-- the items so far are cut, and the others are those at the start
abbrev pub invariant-cut_all-loop-item : goal.invariant-cut_all-loop-item
invariant-cut_all-loop-item l = record {
  cut : IsReplaced form_of (λ item. cut_counts (form_of item)) l.initial.items l.items l.item-index;
  unvisited : goal.unvisited-cut_all-loop-item l;
}
