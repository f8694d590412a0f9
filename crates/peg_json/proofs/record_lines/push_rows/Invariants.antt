use Rattle.std.proofs.Common.{◌≡◌, ◌+◌, ◌++◌, [], length}
use Rattle.peg_tree.specs.FlatTreeLeft.{piece_of, text_left}
use Rattle.peg_json.proofs.record_lines.push_rows.Given as goal

-- the bytes appended, the piece and the rest are the text
abbrev pub invariant-pieces : goal.invariant-pieces
invariant-pieces l = record {
  same : l.fn.bytes.items ++ text_left l.fn.rows ≡ l.bytes.items ++ (piece_of l.rows ++ text_left l.rows);
  ended : piece_of l.rows ≡ [] → text_left l.rows ≡ [];
}

abbrev pub decreases-pieces : goal.decreases-pieces
decreases-pieces l = length (piece_of l.rows) + length (text_left l.rows)
