use Rattle.std.proofs.Common.{◌<◌, [], arith, length}
use Rattle.std.proofs.lemmas.Result.{on_ok_weaker}
use Rattle.peg_check.specs.Cans.{can_of}
use Rattle.peg_check.specs.Exact.{cans_of}
use Rattle.peg_semantics.specs.AbstractOutcomes.{no_outcome}
use Rattle.peg_semantics.specs.Rules.{names}
use Rattle.peg_grammar.specs.GrammarRules.{rules_in}
use Rattle.peg_tree.proofs.Sent.{array-sent, item-sent}
use Rattle.peg_listings.specs.TableText.{entries_data, entry_data}
use Rattle.peg_listings.proofs.TableLemmas.{entry_at, length-entries}
use Rattle.peg_listings.proofs.table_text.serialize_entries.Goals as goal

pub loop-rule-preserved : goal.loop-rule-preserved
loop-rule-preserved g c last rest =
    let rules = rules_in c.args.grammar.now in
    let bodies = c.args.core.now.bodies in
    let table = c.args.table.now in
    let inside : c.loop-rule.rule < length rules = omega (arith, c.loop-rule-test.true, c.rules-rule-end.ensures.count) in
    let entry = entry_at rules bodies table c.loop-rule.rule c.body.result c.rule_name.result.now (can_of c.of-can.result)
    inside c.rule_name.ensures c.body.ensures.number c.of-can.ensures in
    c.loop-rule.invariant last (item-sent (entries_data (names rules) (cans_of bodies table)) c.loop-rule.rule
    (entry_data c.rule_name.result.now (can_of c.of-can.result)) (entry_data [] no_outcome) entry.0 entry.1
    (g.S.Serializer.written c.loop-rule.out) (g.S.Serializer.written c.serialize_entry.new.out) last
    c.in_ok-serialize_entry.ensures rest)

pub returns : goal.returns
returns g c =
    let rules = rules_in c.args.grammar.now in
    let entries = entries_data (names rules) (cans_of c.args.core.now.bodies c.args.table.now) in
    let count = length-entries rules c.args.core.now.bodies c.args.table.now c.requires.rules in
    on_ok_weaker c.end_seq.result (λ e. array-sent entries c.loop-rule.rule c.rules.result
    (omega (arith, c.loop-rule-test.false, c.rules-rule-end.ensures.count)) (omega (arith, c.rules.ensures.count))
    (g.S.Serializer.written c.args.out.now) (g.S.Serializer.written c.begin_seq.new.self)
    (g.S.Serializer.written c.loop-rule.out) (g.S.Serializer.written c.end_seq.new.self)
    c.in_ok-begin_seq.ensures c.loop-rule.invariant e) c.end_seq.ensures
