use Rattle.std.proofs.Common.{drop, map}
use Rattle.serde.specs.Event.{Log}
use Rattle.serde_json.specs.Events.{SendsItems}
use Rattle.serde_json.specs.View.{items_of}
use Rattle.peg_listings.specs.CodeText.{number_data}
use Rattle.peg_listings.proofs.code_text.serialize_entries.Given as goal

-- if the events from here on complete the list of entries, so do all events from its start on
abbrev pub invariant-loop-rule : goal.invariant-loop-rule
invariant-loop-rule g l =
    let reported = map number_data l.program.entries in
    (last : Log) → SendsItems (items_of (drop l.rule reported)) (g.S.Serializer.written l.out) last
    → SendsItems (items_of reported) (g.S.Serializer.written l.initial.out) last
