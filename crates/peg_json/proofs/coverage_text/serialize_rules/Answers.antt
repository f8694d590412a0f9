use Rattle.std.proofs.Common.{false, arith, get_or, length, map, refl, subst}
use Rattle.std.proofs.lemmas.List.{length-map}
use Rattle.std.proofs.lemmas.Result.{on_ok_weaker}
use Rattle.serde_json.specs.Events.{SendsValue}
use Rattle.peg_coverage.specs.Unused.{rule_use}
use Rattle.peg_coverage.specs.declared.coverage.UnusedRule.{UnusedRule}
use Rattle.peg_grammar.specs.GrammarRules.{rules_in}
use Rattle.peg_tree.proofs.Sent.{array-sent, item-sent}
use Rattle.peg_json.specs.CoverageText.{named_use, unused_rule_data}
use Rattle.peg_json.proofs.CoverageLemmas.{length-twice_mapped, rule-is, thrice-mapped}
use Rattle.peg_json.proofs.coverage_text.serialize_rules.Goals as goal

pub loop-unused-init : goal.loop-unused-init
loop-unused-init g c = record {
  placed = c.first_position-position.ensures.position c.args.file.now;
  sent = λ last rest. rest;
}

pub loop-unused-preserved : goal.loop-unused-preserved
loop-unused-preserved g c =
    let file = c.args.file.now in
    let all = rules_in c.args.grammar.now in
    let rules = c.args.rules.now in
    let print = unused_rule_data file in
    let of = named_use all in
    let at = c.loop-unused.unused-index in
    let default : UnusedRule = record { rule = 0; tried = false } in
    let unused = get_or rules at default in
    let shown = print (of (rule_use unused)) in
    let old = g.S.Serializer.written c.loop-unused.out in
    let mid = g.S.Serializer.written c.serialize_rule.new.out in
    let here = thrice-mapped print of rule_use rules at unused default c.loop-unused-test.true refl in
    let same = rule-is file all unused.rule unused.tried c.name_span-span.result c.position_from-position.result
    c.rule_name-name.result.now c.position_from-position.ensures.position c.position_from-position.ensures.at
    c.rule_name-name.ensures c.name_span-span.ensures in
    let count = length-twice_mapped print of (map rule_use rules) in
    record {
      placed = c.position_from-position.ensures.position;
      sent = λ last rest. c.loop-unused.invariant.sent last (item-sent (map print (map of (map rule_use rules))) at shown
          shown (omega (arith, count, length-map rules rule_use, c.loop-unused-test.true)) here old mid last
          (subst (λ value. SendsValue value old mid) same c.in_ok-serialize_rule.ensures) rest);
    }

pub returns : goal.returns
returns g c =
    let rules = c.args.rules.now in
    let print = unused_rule_data c.args.file.now in
    let of = named_use (rules_in c.args.grammar.now) in
    let count = length-twice_mapped print of (map rule_use rules) in
    let own = length-map rules rule_use in
    on_ok_weaker c.end_seq.result (λ e. array-sent (map print (map of (map rule_use rules))) c.loop-unused.unused-index
    (length rules) (omega (arith, count, own, c.loop-unused-test.false)) (omega (arith, count, own))
    (g.S.Serializer.written c.args.out.now) (g.S.Serializer.written c.begin_seq.new.self)
    (g.S.Serializer.written c.loop-unused.out) (g.S.Serializer.written c.end_seq.new.self)
    c.in_ok-begin_seq.ensures c.loop-unused.invariant.sent e) c.end_seq.ensures
