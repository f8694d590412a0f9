use Rattle.std.proofs.Common.{[], map}
use Rattle.serde.specs.Event.{Log}
use Rattle.serde_json.specs.Events.{SendsItems}
use Rattle.serde_json.specs.View.{items_of}
use Rattle.peg_tree.specs.Rows.{row_of}
use Rattle.peg_tree.proofs.JsonRows.{named_row}
use Rattle.peg_tree.proofs.RowEvents.{rest_of, rows_below}
use Rattle.peg_tree.proofs.flat_tree.serialize_rows.Given as goal

-- every valid end of the list from here on is a valid end of the whole list
abbrev pub invariant-loop-at : goal.invariant-loop-at
invariant-loop-at g l =
    (last : Log) → SendsItems (items_of (rest_of (named_row (g.N.Names.names l.names)) l.rows l.at l.ends.items)) (g.S.Serializer.written l.out) last
    → SendsItems (items_of (rows_below (named_row (g.N.Names.names l.names)) [] 0 (map row_of l.rows))) (g.S.Serializer.written l.initial.out) last
