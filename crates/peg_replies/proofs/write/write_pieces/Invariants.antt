use Rattle.std.proofs.Common.{◌≡◌, ◌+◌, ◌++◌, [], List, ℕ, false, length}
use Rattle.std.specs.Io.KnownBytes.{Appends}
use Rattle.peg_tree.specs.FlatTreeLeft.{piece_of, text_left}
use Rattle.peg_replies.proofs.write.write_pieces.Given as goal

-- the bytes written, the piece and the rest are the text
abbrev pub invariant-pieces : goal.invariant-pieces
invariant-pieces g l = record {
  done : List ℕ;
  written : Appends (g.W.Sink.written l.initial.output) (g.W.Sink.written l.output) done;
  same : text_left l.fn.rows ≡ done ++ (piece_of l.rows ++ text_left l.rows);
  ended : piece_of l.rows ≡ [] → text_left l.rows ≡ [];
  works : g.W.Sink.failed l.output ≡ false;
}

abbrev pub decreases-pieces : goal.decreases-pieces
decreases-pieces g l = length (piece_of l.rows) + length (text_left l.rows)
