use Rattle.std.proofs.Common.{drop, map}
use Rattle.serde.specs.Event.{Log}
use Rattle.serde_json.specs.Data.{string}
use Rattle.serde_json.specs.Events.{SendsItems}
use Rattle.serde_json.specs.View.{items_of}
use Rattle.peg_tree.specs.Names.{name_at}
use Rattle.peg_json.proofs.refusal_text.serialize_names.Given as goal

-- if the events from here on complete the list of names, so do all events from its start on
abbrev pub invariant-loop-rule : goal.invariant-loop-rule
invariant-loop-rule g l =
    let reported = map string (map (name_at (map (λ name. name.now) l.names)) l.path) in
    (last : Log) → SendsItems (items_of (drop l.rule-index reported)) (g.S.Serializer.written l.out) last
    → SendsItems (items_of reported) (g.S.Serializer.written l.initial.out) last
