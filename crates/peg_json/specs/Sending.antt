-- Describes code: the serializer events of answers.
use Rattle.std.specs.Prelude.{ℕ, Bool, List, Some, codes}
use Rattle.serde.specs.Event.{Log, Logs}
use Rattle.serde.specs.Event as event
use Rattle.serde_json.specs.Data.{unsigned, number, string}
use Rattle.serde_json.specs.Events.{SendsValue}
use Rattle.peg_bytes.specs.Extent.{Extent}
use Rattle.peg_tree.specs.Events.{SendsMember}
use Rattle.peg_parser.specs.Parser.{parser_rules}
use Rattle.peg_json.specs.Parses.{extents_at}
use Rattle.peg_json.specs.Reply.{expected_data, match_word}
use Rattle.peg_json.specs.declared.expected_spans.ExpectedSpans.{ExpectedSpans}

-- the spans of the terminals
abbrev pub spans_of : ExpectedSpans → List Extent
spans_of places = extents_at (parser_rules places.parser.now) places.terminals.now

-- the object of a match whose last member has this key and these events
abbrev pub SendsMatch : (partial : Bool) → (end far : ℕ) → List Extent → (key : List ℕ) → (Log → Log → Type 0)
    → Log → Log → Type 0
SendsMatch partial end far expected key Sent old new =
    (begun consumed expecting reached worded reported : Log) × Logs old begun (event.map_begins (Some 5))
    × SendsMember (codes "consumed") (SendsValue (number (unsigned end))) begun consumed
    × SendsMember (codes "expected") (SendsValue (expected_data expected)) consumed expecting
    × SendsMember (codes "far") (SendsValue (number (unsigned far))) expecting reached
    × SendsMember (codes "result") (SendsValue (string (match_word partial))) reached worded
    × SendsMember key Sent worded reported × Logs reported new event.map_ends
