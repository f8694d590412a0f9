use Rattle.std.proofs.Common.{drop, map, reverse}
use Rattle.serde.specs.Event.{Log}
use Rattle.serde_json.specs.Events.{SendsItems}
use Rattle.serde_json.specs.View.{items_of}
use Rattle.peg_listings.specs.ByteRuns.{byte_run_of}
use Rattle.peg_listings.specs.CodeText.{run_data}
use Rattle.peg_listings.proofs.code_text.serialize_backwards.Given as goal

-- if the events from here on complete the list of runs, so do all events from its start on
abbrev pub invariant-loop-sent : goal.invariant-loop-sent
invariant-loop-sent g l =
    let reported = map run_data (reverse (map byte_run_of l.runs)) in
    (last : Log) → SendsItems (items_of (drop l.sent reported)) (g.S.Serializer.written l.out) last
    → SendsItems (items_of reported) (g.S.Serializer.written l.initial.out) last
