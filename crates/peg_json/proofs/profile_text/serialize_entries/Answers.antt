use Rattle.std.proofs.Common.{◌<◌, [], arith, get_or, length}
use Rattle.std.proofs.lemmas.Result.{on_ok_weaker}
use Rattle.peg_semantics.specs.Rules.{names}
use Rattle.peg_grammar.specs.GrammarRules.{rules_in}
use Rattle.peg_tree.proofs.Sent.{array-sent, item-sent}
use Rattle.peg_profile.specs.declared.counts.RuleProfile.{RuleProfile}
use Rattle.peg_json.specs.ProfileText.{rule_entries_data, rule_entry_data}
use Rattle.peg_json.proofs.ProfileLemmas.{length-rule_entries, profile_at}
use Rattle.peg_json.proofs.profile_text.serialize_entries.Goals as goal

pub loop-rule-preserved : goal.loop-rule-preserved
loop-rule-preserved g c last rest =
    let rules = rules_in c.args.grammar.now in
    let profiles = c.args.profiles.now in
    let inside : c.loop-rule.rule < length rules = omega (arith, c.loop-rule-test.true, c.rules-rule-end.ensures.count) in
    let other : RuleProfile = record { calls = 0; places = 0 } in
    let entry = profile_at rules profiles c.loop-rule.rule c.rule_name.result.now other inside c.requires
    c.rule_name.ensures in
    c.loop-rule.invariant last (item-sent (rule_entries_data (names rules) profiles) c.loop-rule.rule
    (rule_entry_data c.rule_name.result.now (get_or profiles c.loop-rule.rule other)) (rule_entry_data [] other) entry.0
    entry.1 (g.S.Serializer.written c.loop-rule.out) (g.S.Serializer.written c.serialize_entry.new.out) last
    c.in_ok-serialize_entry.ensures rest)

pub returns : goal.returns
returns g c =
    let rules = rules_in c.args.grammar.now in
    let entries = rule_entries_data (names rules) c.args.profiles.now in
    let count = length-rule_entries rules c.args.profiles.now c.requires in
    on_ok_weaker c.end_seq.result (λ e. array-sent entries c.loop-rule.rule c.rules.result
    (omega (arith, c.loop-rule-test.false, c.rules-rule-end.ensures.count)) (omega (arith, c.rules.ensures.count))
    (g.S.Serializer.written c.args.out.now) (g.S.Serializer.written c.begin_seq.new.self)
    (g.S.Serializer.written c.loop-rule.out) (g.S.Serializer.written c.end_seq.new.self)
    c.in_ok-begin_seq.ensures c.loop-rule.invariant e) c.end_seq.ensures
