use Rattle.std.proofs.Common.{drop, map}
use Rattle.serde.specs.Event.{Log}
use Rattle.serde_json.specs.Events.{SendsItems}
use Rattle.serde_json.specs.View.{items_of}
use Rattle.peg_coverage.specs.Unused.{rule_use}
use Rattle.peg_grammar.specs.GrammarRules.{rules_in}
use Rattle.peg_json.specs.CoverageText.{named_use, unused_rule_data}
use Rattle.peg_listings.specs.Positions.{IsPositionIn}
use Rattle.peg_json.proofs.coverage_text.serialize_rules.Given as goal

-- the position is right, and if the events from here on complete the list of rules, so do all events from its start on
abbrev pub invariant-loop-unused : goal.invariant-loop-unused
invariant-loop-unused g l =
    let places = map (unused_rule_data l.file) (map (named_use (rules_in l.grammar)) (map rule_use l.rules)) in
    record {
      placed : IsPositionIn l.file l.position;
      sent : (last : Log)
          → SendsItems (items_of (drop l.unused-index places)) (g.S.Serializer.written l.out) last
          → SendsItems (items_of places) (g.S.Serializer.written l.initial.out) last;
    }
