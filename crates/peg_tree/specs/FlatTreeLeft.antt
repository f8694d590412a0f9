-- Describes code: the text that a `FlatTreeWriter` has still to produce.
use Rattle.std.specs.Prelude.{ℕ, List, drop, map, nat_lt, reverse, take}
use Rattle.peg_tree.specs.RowText.{printed_rows, printed_text, shown_rules}
use Rattle.peg_tree.specs.Rows.{rows_of}
use Rattle.peg_tree.specs.declared.flat_tree_writer.FlatTreeWriter.{FlatTreeWriter}

-- the bytes after the current piece
abbrev pub text_left : FlatTreeWriter → List ℕ
text_left text =
    printed_text (nat_lt 0 text.at) (map (λ name. name.items) text.names.items)
    (printed_rows (shown_rules text.shown) (reverse text.ends.items) text.at (drop text.at (rows_of text.tree)))

-- the current piece
abbrev pub piece_of : FlatTreeWriter → List ℕ
piece_of text = take text.filled text.buffer.items
