use Rattle.std.proofs.Common.{drop, map}
use Rattle.serde.specs.Event.{Log}
use Rattle.serde_json.specs.Events.{SendsItems}
use Rattle.serde_json.specs.View.{items_of}
use Rattle.peg_parser.specs.Parser.{parser_rules}
use Rattle.peg_json.specs.Parses.{extents_at}
use Rattle.peg_listings.specs.Extents.{extent_data}
use Rattle.peg_json.proofs.expected_spans.serialize_spans.Given as goal

-- if the events from here on complete the list of spans, so do all events from its start on
abbrev pub invariant-loop-terminal : goal.invariant-loop-terminal
invariant-loop-terminal g l =
    let pairs = map extent_data (extents_at (parser_rules l.parser) l.terminals) in
    (last : Log) → SendsItems (items_of (drop l.terminal-index pairs)) (g.S.Serializer.written l.out) last
    → SendsItems (items_of pairs) (g.S.Serializer.written l.initial.out) last
