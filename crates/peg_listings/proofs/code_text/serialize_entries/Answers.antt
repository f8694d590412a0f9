use Rattle.std.proofs.Common.{arith, map}
use Rattle.std.proofs.lemmas.List.{length-map}
use Rattle.std.proofs.lemmas.Result.{on_ok_weaker}
use Rattle.peg_tree.proofs.Sent.{array-sent, item-sent}
use Rattle.peg_listings.specs.CodeText.{number_data}
use Rattle.peg_listings.proofs.CodeLemmas.{printed-at}
use Rattle.peg_listings.proofs.code_text.serialize_entries.Goals as goal

pub loop-rule-preserved : goal.loop-rule-preserved
loop-rule-preserved g c last rest =
    let entries = c.args.program.now.entries in
    let entry = c.entry.result in
    c.loop-rule.invariant last (item-sent (map number_data entries) c.loop-rule.rule (number_data entry) (number_data entry)
    (omega (arith, length-map entries number_data, c.loop-rule-test.true, c.rules-rule-end.ensures.entries))
    (printed-at number_data entries c.loop-rule.rule entry c.entry.ensures.number)
    (g.S.Serializer.written c.loop-rule.out) (g.S.Serializer.written c.serialize.new.out) last c.in_ok-serialize.ensures rest)

pub returns : goal.returns
returns g c =
    let entries = c.args.program.now.entries in
    let count = length-map entries number_data in
    on_ok_weaker c.end_seq.result (λ e. array-sent (map number_data entries) c.loop-rule.rule c.rules.result
    (omega (arith, count, c.loop-rule-test.false, c.rules-rule-end.ensures.entries)) (omega (arith, count, c.rules.ensures.entries))
    (g.S.Serializer.written c.args.out.now) (g.S.Serializer.written c.begin_seq.new.self)
    (g.S.Serializer.written c.loop-rule.out) (g.S.Serializer.written c.end_seq.new.self)
    c.in_ok-begin_seq.ensures c.loop-rule.invariant e) c.end_seq.ensures
