use Rattle.std.proofs.Common.{◌≡◌, ◌++◌, length, map}
use Rattle.peg_tree.specs.Rows.{row_of}
use Rattle.peg_nodes.specs.Expansion.{images_of, range_rows}
use Rattle.peg_nodes.specs.Ranges.{AreWaiting, waiting_rows, work_of}
use Rattle.peg_nodes.proofs.expand.expand_link.Given as goal

-- the nodes so far, and the nodes of the waiting ranges, are all
abbrev pub invariant-loop-range : goal.invariant-loop-range
invariant-loop-range l = record {
  rows : map row_of l.nodes.items ++ waiting_rows (images_of l.stored) l.waiting.items
      ≡ map row_of l.fn.nodes.items ++ range_rows (images_of l.stored) l.fn.link;
  within : AreWaiting (length l.stored) l.waiting.items;
}

abbrev pub decreases-loop-range : goal.decreases-loop-range
decreases-loop-range l = work_of l.waiting.items
