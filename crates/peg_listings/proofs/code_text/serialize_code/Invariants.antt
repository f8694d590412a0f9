use Rattle.std.proofs.Common.{drop, map}
use Rattle.serde.specs.Event.{Log}
use Rattle.serde_json.specs.Events.{SendsItems}
use Rattle.serde_json.specs.View.{items_of}
use Rattle.peg_listings.specs.CodeText.{instruction_data}
use Rattle.peg_listings.proofs.code_text.serialize_code.Given as goal

-- if the events from here on complete the list of instructions, so do all events from its start on
abbrev pub invariant-loop-pc : goal.invariant-loop-pc
invariant-loop-pc g l =
    let reported = map instruction_data l.program.code in
    (last : Log) → SendsItems (items_of (drop l.pc reported)) (g.S.Serializer.written l.out) last
    → SendsItems (items_of reported) (g.S.Serializer.written l.initial.out) last
