use Rattle.std.proofs.Common.{drop}
use Rattle.serde.specs.Event.{Log}
use Rattle.serde_json.specs.Events.{SendsItems}
use Rattle.serde_json.specs.View.{items_of}
use Rattle.peg_check.specs.Exact.{cans_of}
use Rattle.peg_semantics.specs.Rules.{names}
use Rattle.peg_grammar.specs.GrammarRules.{rules_in}
use Rattle.peg_listings.specs.TableText.{entries_data}
use Rattle.peg_listings.proofs.table_text.serialize_entries.Given as goal

-- if the events from here on complete the list of entries, so do all events from its start on
abbrev pub invariant-loop-rule : goal.invariant-loop-rule
invariant-loop-rule g l =
    let entries = entries_data (names (rules_in l.grammar)) (cans_of l.core.bodies l.table) in
    (last : Log) → SendsItems (items_of (drop l.rule entries)) (g.S.Serializer.written l.out) last
    → SendsItems (items_of entries) (g.S.Serializer.written l.initial.out) last
