use Rattle.std.proofs.Common.{drop, map}
use Rattle.serde.specs.Event.{Log}
use Rattle.serde_json.specs.Events.{SendsItems}
use Rattle.serde_json.specs.View.{items_of}
use Rattle.peg_semantics.specs.Rules.{names}
use Rattle.peg_grammar.specs.GrammarRules.{rules_in}
use Rattle.peg_listings.specs.LintText.{warning_data}
use Rattle.peg_listings.specs.Positions.{IsPositionIn}
use Rattle.peg_listings.proofs.lint_text.serialize_warnings.Given as goal

-- the position is right, and if the events from here on complete the list of warnings, so do all events from its start
-- on
abbrev pub invariant-loop-warning : goal.invariant-loop-warning
invariant-loop-warning g l = record {
  placed : IsPositionIn l.file l.position;
  sent : (last : Log)
      → SendsItems (items_of (drop l.warning-index (map (warning_data l.file (names (rules_in l.grammar))) l.warnings)))
      (g.S.Serializer.written l.out) last
      → SendsItems (items_of (map (warning_data l.file (names (rules_in l.grammar))) l.warnings))
      (g.S.Serializer.written l.initial.out) last;
}
