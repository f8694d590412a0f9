use Rattle.std.proofs.Common.{map, take, vec_len}
use Rattle.peg_tree.specs.RowText.{EachAtMost}
use Rattle.peg_tree.proofs.flat_tree_writer.longest_of.Given as goal

-- no name visited so far is longer
abbrev pub invariant-loop-at : goal.invariant-loop-at
invariant-loop-at l = record {
  so_far : EachAtMost l.longest (map (λ name. vec_len name) (take l.at l.names));
}
