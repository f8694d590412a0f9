use Rattle.std.proofs.Common.{drop, map}
use Rattle.serde.specs.Event.{Log}
use Rattle.serde_json.specs.Events.{SendsItems}
use Rattle.serde_json.specs.View.{items_of}
use Rattle.peg_coverage.specs.Unused.{alternative_use}
use Rattle.peg_json.specs.CoverageText.{alternative_data}
use Rattle.peg_listings.specs.Positions.{IsPositionIn}
use Rattle.peg_json.proofs.coverage_text.serialize_alternatives.Given as goal

-- the position is right, and if the events from here on complete the list of places, so do all events from its start on
abbrev pub invariant-loop-unused : goal.invariant-loop-unused
invariant-loop-unused g l =
    let places = map (alternative_data l.file) (map alternative_use l.alternatives) in
    record {
      placed : IsPositionIn l.file l.position;
      sent : (last : Log)
          → SendsItems (items_of (drop l.unused-index places)) (g.S.Serializer.written l.out) last
          → SendsItems (items_of places) (g.S.Serializer.written l.initial.out) last;
    }
